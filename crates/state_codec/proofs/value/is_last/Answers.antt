use Rattle.std.proofs.Common.{◌≡◌, ◌-◌, ℕ, List, Some, length, sym, ap, subst, ◌∙◌}
use Rattle.std.specs.Option.{option_copied}
use Rattle.std.specs.Prelude.{slice_get}
use Rattle.entry_model.specs.declared.value.Value.{Value}
use Rattle.state_codec.proofs.Keys.{on_true, above_last}
use Rattle.state_codec.proofs.value.is_last.Goals as goal

pub returns-in-Some-clause-above : goal.returns-in-Some-clause-above
returns-in-Some-clause-above c =
    let there = subst (λ (es : List (List ℕ × Value)). slice_get es (length es - 1) ≡ Some c.in-Some.field-0.now) c.members.ensures.members (sym c.last.ensures.value ∙ ap option_copied c.in-Some.is) in
    on_true c.lt.result (λ is. above_last c.args.fields.now.entries c.in-Some.field-0.now c.args.key.now c.members.ensures.ordered there (sym c.lt.ensures ∙ is))
