use Rattle.expr_lang.proofs.Reading.{one_tree}
use Rattle.expr_lang.proofs.laws.text_has_one_tree.Goals as goal

pub returns : goal.returns
returns c = one_tree
