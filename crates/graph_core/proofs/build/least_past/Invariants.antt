use Rattle.std.proofs.Common.{◌<◌, ℕ}
use Rattle.graph_core.specs.Inner.Reach.{lists_of}
use Rattle.graph_core.specs.Faults.{LeadsPast}
use Rattle.graph_core.proofs.build.least_past.Given as goal

abbrev pub invariant-loop-node : goal.invariant-loop-node
invariant-loop-node l = (v : ℕ) → v < l.node → LeadsPast (lists_of l.edges) v → ⊥
