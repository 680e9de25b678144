use Rattle.std.proofs.Common.{◌≡◌, drop}
use Rattle.serde_json.specs.View.{items_view}
use Rattle.settings_text.specs.Kinds.{each}
use Rattle.settings_text.specs.Mappings.{rule_of}
use Rattle.settings_text.specs.Place.{item_place}
use Rattle.settings_text.proofs.InTurn.{with_front}
use Rattle.settings_text.proofs.mappings.add_each.Given as goal

abbrev pub invariant-loop-index : goal.invariant-loop-index
invariant-loop-index l =
    with_front l.rules.items (each (λ n. rule_of l.severity.number (item_place l.key n)) l.index (items_view (drop l.index l.value-items)))
    ≡ with_front l.fn.rules.items (each (λ n. rule_of l.severity.number (item_place l.key n)) 0 (items_view l.value-items))
