use Rattle.line_splitter.proofs.LineLemmas.{line_cuts_law}
use Rattle.line_splitter.proofs.tokens.begins_with_first.Goals as goal

pub returns : goal.returns
returns c = line_cuts_law c.args.max c.requires c.args.bytes.now
