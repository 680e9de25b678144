use Rattle.multiline.proofs.RuleLemmas.{keeps_law}
use Rattle.multiline.proofs.laws.keeps_tokens.Goals as goal

pub returns : goal.returns
returns c = keeps_law c.args.max c.requires
