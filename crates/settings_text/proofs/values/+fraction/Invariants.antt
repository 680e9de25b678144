use Rattle.std.proofs.Common.{◌≡◌, drop}
use Rattle.serde_json.specs.View.{items_view, members_view}
use Rattle.settings_text.specs.ValueData.{items_have_fraction, members_have_fraction}
use Rattle.settings_text.proofs.values.+fraction.Given as goal

abbrev pub invariant-items_have_fraction-loop-value : goal.invariant-items_have_fraction-loop-value
invariant-items_have_fraction-loop-value l = items_have_fraction (items_view (drop l.value-index l.value-items)) ≡ items_have_fraction (items_view l.value-items)

abbrev pub invariant-members_have_fraction-loop-key : goal.invariant-members_have_fraction-loop-key
invariant-members_have_fraction-loop-key l = members_have_fraction (members_view l._key-iterator) ≡ members_have_fraction (members_view l.members.entries)
