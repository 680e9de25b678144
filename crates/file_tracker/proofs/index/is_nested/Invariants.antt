use Rattle.std.proofs.Common.{◌≡◌, ◌+◌, ℕ, ◌<◌, false, length}
use Rattle.file_tracker.specs.Fronts.{begins, fronts_of}
use Rattle.file_tracker.specs.Order.{front_in}
use Rattle.file_tracker.proofs.index.is_nested.Given as goal

abbrev pub invariant-loop-index : goal.invariant-loop-index
invariant-loop-index l =
    (k : ℕ) → k + 1 < l.index → k + 1 < length l.order → begins (front_in (fronts_of l.rows) l.order k) (front_in (fronts_of l.rows) l.order (k + 1)) ≡ false
