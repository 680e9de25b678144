use Rattle.std.proofs.Common.{◌≡◌, ◌+◌, drop}
use Rattle.expr_lang.specs.Inner.BrokenWords.{fitting}
use Rattle.expr_lang.proofs.place.fitting_count.Given as goal

abbrev pub invariant-loop-index : goal.invariant-loop-index
invariant-loop-index l = fitting l.most 0 l.digits ≡ l.index + fitting l.most l.value (drop l.index l.digits)
