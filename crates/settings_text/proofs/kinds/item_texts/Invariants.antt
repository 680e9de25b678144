use Rattle.std.proofs.Common.{◌≡◌, ◌++◌, drop}
use Rattle.serde_json.specs.View.{items_view}
use Rattle.settings_text.specs.Kinds.{each, text, item_texts}
use Rattle.settings_text.specs.Place.{item_place}
use Rattle.settings_text.proofs.InTurn.{with_front}
use Rattle.settings_text.proofs.kinds.item_texts.Given as goal

abbrev pub invariant-loop-index : goal.invariant-loop-index
invariant-loop-index l =
    with_front l.texts.items (each (λ n. text (item_place (l.at ++ l.key) n)) l.index (items_view (drop l.index l.value-items))) ≡ item_texts (l.at ++ l.key) (items_view l.value-items)
