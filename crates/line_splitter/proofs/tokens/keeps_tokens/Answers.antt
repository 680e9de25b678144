use Rattle.line_splitter.proofs.LineLemmas.{line_cuts-append}
use Rattle.line_splitter.proofs.tokens.keeps_tokens.Goals as goal

pub returns : goal.returns
returns c = line_cuts-append c.args.max c.requires
