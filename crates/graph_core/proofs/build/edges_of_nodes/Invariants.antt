use Rattle.std.proofs.Common.{◌≡◌, take}
use Rattle.graph_core.specs.Wiring.{wiring_of, edges_of}
use Rattle.graph_core.specs.Inner.Reach.{lists_of}
use Rattle.graph_core.proofs.build.edges_of_nodes.Given as goal

abbrev pub invariant-loop-node : goal.invariant-loop-node
invariant-loop-node g l = lists_of l.edges.items ≡ edges_of (wiring_of (take l.node-index l.nodes))
