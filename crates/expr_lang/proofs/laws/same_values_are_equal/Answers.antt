use Rattle.std.proofs.Common.{◌≡◌, subst, true}
use Rattle.entry_model.specs.Datum.{Datum}
use Rattle.expr_lang.specs.Equality.{same}
use Rattle.expr_lang.proofs.Equal.{equal, itself}
use Rattle.expr_lang.proofs.laws.same_values_are_equal.Goals as goal

pub returns : goal.returns
returns c one other = (equal one other, λ e. subst (λ (d : Datum). same one d ≡ true) e (itself one))
