use Rattle.std.proofs.Common.{◌≡◌, length}
use Rattle.graph_core.specs.Traces.{network_of}
use Rattle.graph_core.specs.Inner.Walk.{Walk}
use Rattle.graph_core.proofs.Pushing.{closings_from}
use Rattle.graph_core.proofs.walk.close_all.Given as goal

-- closing what is left leads wherever closing all leads from the start
abbrev pub invariant-loop-node : goal.invariant-loop-node
invariant-loop-node g l = record {
  kept : length l.states.items ≡ length l.initial.states.items;
  walks : (t : _) (p : _) → Walk (network_of g.O.Step.behavior l.graph) l.states.items l.out.items (closings_from l.order l.node-index) t p
      → Walk (network_of g.O.Step.behavior l.graph) l.initial.states.items l.initial.out.items (closings_from l.order 0) t p;
}
