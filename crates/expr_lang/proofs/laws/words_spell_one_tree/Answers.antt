use Rattle.std.proofs.Common.{◌≡◌, ◌∙◌, sym, Some}
use Rattle.expr_lang.proofs.Complete.{finishes}
use Rattle.expr_lang.proofs.laws.words_spell_one_tree.Goals as goal

pub returns : goal.returns
returns c row tree other one another = let e : Some tree ≡ Some other = sym (finishes row tree one) ∙ finishes row other another in cc e
