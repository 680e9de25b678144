use Rattle.expr_lang.proofs.Complete.{finishes}
use Rattle.expr_lang.proofs.Sound.{spelled}
use Rattle.expr_lang.proofs.laws.words_lead_to_their_tree.Goals as goal

pub returns : goal.returns
returns c row tree = (spelled row tree, finishes row tree)
