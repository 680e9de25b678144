use Rattle.line_splitter.proofs.LineLemmas.{first_cut-is_rule}
use Rattle.line_splitter.proofs.laws.lines_are_cut_by_a_rule.Goals as goal

pub returns : goal.returns
returns c = first_cut-is_rule c.args.max c.requires
