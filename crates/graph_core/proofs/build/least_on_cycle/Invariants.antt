use Rattle.std.proofs.Common.{◌<◌, ℕ}
use Rattle.graph_core.specs.Inner.Reach.{lists_of}
use Rattle.graph_core.specs.Faults.{Reaches}
use Rattle.graph_core.proofs.build.least_on_cycle.Given as goal

abbrev pub invariant-loop-start : goal.invariant-loop-start
invariant-loop-start l = (v : ℕ) → v < l.start → Reaches (lists_of l.edges) v v → ⊥
