use Rattle.std.proofs.Common.{◌∙◌, ap, sym, subst, ℤ}
use Rattle.std.proofs.lemmas.Int.{to_z-of_z}
use mir.Syntax.{w64}
use mir.Val.{SFits}
use Rattle.entry_model.proofs.Data.{datum_int, datum_text}
use Rattle.entry_model.specs.Datum.{int, text}
use Rattle.json_text.proofs.Steps.{number_is_int, number_is_text}
use Rattle.json_text.proofs.number.number_value.Goals as goal

pub returns-in-Ok : goal.returns-in-Ok
returns-in-Ok c =
    let parsed = c.in-Ok.ensures.value.0 in
    let fits : SFits w64 c.in-Ok.number = subst (λ (z : ℤ). SFits w64 z) (sym parsed.1) parsed.0.1 in
    datum_int _ ∙ ap int (to_z-of_z w64 c.in-Ok.number fits) ∙ number_is_int c.args.spelled.now c.in-Ok.number parsed.0 parsed.1

pub returns-in_ok-from_str-in-Err : goal.returns-in_ok-from_str-in-Err
returns-in_ok-from_str-in-Err c =
    datum_text c.in_ok-from_str-in-Err.field-0 ∙ ap text c.in_ok-from_str-in-Err.ensures ∙ number_is_text c.args.spelled.now c.in-Err.ensures.value.0
