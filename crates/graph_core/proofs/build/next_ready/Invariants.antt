use Rattle.std.proofs.Common.{◌≡◌, ◌-◌, length}
use Rattle.graph_core.specs.Closing.{next_ready, next_ready_from}
use Rattle.graph_core.specs.Inner.Reach.{lists_of}
use Rattle.graph_core.proofs.build.next_ready.Given as goal

abbrev pub invariant-loop-node : goal.invariant-loop-node
invariant-loop-node l = next_ready_from (lists_of l.edges) l.listed l.node (length l.edges - l.node) ≡ next_ready (lists_of l.edges) l.listed
