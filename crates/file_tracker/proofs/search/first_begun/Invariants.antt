use Rattle.std.proofs.Common.{◌≡◌, ◌+◌, ℕ, ◌<◌, false, get_or}
use Rattle.file_tracker.specs.declared.row.Row.{Row}
use Rattle.file_tracker.specs.Fronts.{begins, front_of}
use Rattle.file_tracker.proofs.search.first_begun.Given as goal

abbrev pub invariant-loop-place : goal.invariant-loop-place
invariant-loop-place g l =
    (l.steps ≡ l.initial.steps + l.place) × ((k : ℕ) (d : Row) → k < l.place → begins (front_of (get_or l.rows k d)) l.text ≡ false)
