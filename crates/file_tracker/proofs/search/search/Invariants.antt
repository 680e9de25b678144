use Rattle.std.proofs.Common.{◌-◌, length}
use Rattle.file_tracker.specs.Fronts.{fronts_of}
use Rattle.file_tracker.specs.Order.{StandsBetween}
use Rattle.file_tracker.proofs.CostLemmas.{Halves}
use Rattle.file_tracker.proofs.search.search.Given as goal

abbrev pub invariant-loop-low : goal.invariant-loop-low
invariant-loop-low g l =
    StandsBetween (fronts_of l.rows) l.order l.text l.low l.high l.begun × Halves (length l.order) l.initial.steps l.steps (l.high - l.low)

abbrev pub decreases-loop-low : goal.decreases-loop-low
decreases-loop-low g l = l.high - l.low
