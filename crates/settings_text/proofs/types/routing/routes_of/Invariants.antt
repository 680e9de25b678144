use Rattle.std.proofs.Common.{◌≡◌, ◌++◌, codes, drop}
use Rattle.serde_json.specs.View.{items_view}
use Rattle.settings_text.specs.Kinds.{each}
use Rattle.settings_text.specs.Types.Routing.{route}
use Rattle.settings_text.proofs.InTurn.{with_front}
use Rattle.settings_text.proofs.types.routing.routes_of.Given as goal

abbrev pub invariant-loop-index : goal.invariant-loop-index
invariant-loop-index l =
    with_front l.routes.items (each (route (l.at ++ codes "routes")) l.index (items_view (drop l.index l.value-items))) ≡ each (route (l.at ++ codes "routes")) 0 (items_view l.value-items)
