use Rattle.std.proofs.Common.{◌≡◌, length, drop}
use Rattle.graph_core.specs.Traces.{network_of}
use Rattle.whole_runs.specs.Inner.Serving.{states_in_order, calls_in_order}
use Rattle.whole_runs.proofs.serve.serve_all.Given as goal

-- what the nodes that are left leave from here is what all leave from the start
abbrev pub invariant-loop-node : goal.invariant-loop-node
invariant-loop-node g l = record {
  kept : length l.states.items ≡ length l.initial.states.items;
  states : states_in_order (network_of g.O.Step.behavior l.graph) (drop l.node-index l.order) l.states.items l.calls.items
      ≡ states_in_order (network_of g.O.Step.behavior l.graph) l.order l.initial.states.items l.initial.calls.items;
  calls : calls_in_order (network_of g.O.Step.behavior l.graph) (drop l.node-index l.order) l.states.items l.calls.items
      ≡ calls_in_order (network_of g.O.Step.behavior l.graph) l.order l.initial.states.items l.initial.calls.items;
}
