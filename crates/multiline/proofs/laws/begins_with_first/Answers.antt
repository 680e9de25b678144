use Rattle.multiline.proofs.RuleLemmas.{begins_law}
use Rattle.multiline.proofs.laws.begins_with_first.Goals as goal

pub returns : goal.returns
returns c = begins_law c.args.max c.requires
