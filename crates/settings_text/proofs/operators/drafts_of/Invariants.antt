use Rattle.std.proofs.Common.{◌≡◌, drop}
use Rattle.serde_json.specs.View.{items_view}
use Rattle.settings_text.specs.Kinds.{each}
use Rattle.settings_text.specs.Operators.{draft}
use Rattle.settings_text.proofs.InTurn.{with_front}
use Rattle.settings_text.proofs.operators.drafts_of.Given as goal

abbrev pub invariant-loop-index : goal.invariant-loop-index
invariant-loop-index l = with_front l.drafts.items (each draft l.index (items_view (drop l.index l.value-items))) ≡ each draft 0 (items_view l.value-items)
