use Rattle.std.proofs.Common.{◌≡◌, List, ◌++◌, take, map}
use Rattle.entry_model.specs.Datum.{datum}
use Rattle.serde_json.proofs.Views.{Entry}
use Rattle.serde_json.specs.View.{view, members_view}
use Rattle.settings_text.specs.Content.{members_in_memory}
use Rattle.settings_text.specs.ValueData.{value_data, members_data}
use Rattle.settings_text.proofs.values.+value.Given as goal

abbrev pub invariant-fields_of-loop-key : goal.invariant-fields_of-loop-key
invariant-fields_of-loop-key l =
    (done : List Entry) × (l.members.entries ≡ done ++ l.key-iterator) × (members_in_memory l.copies ≡ members_data (members_view done))

abbrev pub invariant-values_of-loop-value : goal.invariant-values_of-loop-value
invariant-values_of-loop-value l = map datum l.copies.items ≡ map (λ v. value_data (view v)) (take l.value-index l.value-items)
