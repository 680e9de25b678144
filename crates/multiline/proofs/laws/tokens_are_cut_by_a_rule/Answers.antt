use Rattle.multiline.proofs.RuleLemmas.{is_rule}
use Rattle.multiline.proofs.laws.tokens_are_cut_by_a_rule.Goals as goal

pub returns : goal.returns
returns c = is_rule c.args.max c.requires
