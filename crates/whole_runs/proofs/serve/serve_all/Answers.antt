use Rattle.std.proofs.Common.{◌∙◌, ap, List, ℕ}
use Rattle.graph_core.specs.Traces.{network_of}
use Rattle.whole_runs.specs.Inner.Serving.{states_in_order, calls_in_order}
use Rattle.whole_runs.proofs.Below.{node_below}
use Rattle.whole_runs.proofs.Nodes.{states_more, calls_more, states_done, calls_done}
use Rattle.whole_runs.proofs.serve.serve_all.Goals as goal

pub serve-requires : goal.serve-requires
serve-requires g c = record {
  node = node_below c.args.graph.now c.args.order.now c.loop-node.node-index c.requires.order c.loop-node-test.true;
  states = c.loop-node.invariant.kept ∙ c.requires.states;
}

pub loop-node-preserved : goal.loop-node-preserved
loop-node-preserved g c =
    let net = network_of g.O.Step.behavior c.args.graph.now in
    record {
      kept = c.serve.ensures.kept ∙ c.loop-node.invariant.kept;
      states = states_more net c.args.order.now c.loop-node.node-index c.loop-node.states.items c.serve.new.states.items c.loop-node.calls.items c.in_ok-left.left.items
          c.loop-node-test.true c.in_ok-left.ensures.states c.in_ok-left.ensures.calls
          ∙ c.loop-node.invariant.states;
      calls = calls_more net c.args.order.now c.loop-node.node-index c.loop-node.states.items c.serve.new.states.items c.loop-node.calls.items c.in_ok-left.left.items
          c.loop-node-test.true c.in_ok-left.ensures.states c.in_ok-left.ensures.calls
          ∙ c.loop-node.invariant.calls;
    }

pub returns-clause-states : goal.returns-clause-states
returns-clause-states g c =
    let net = network_of g.O.Step.behavior c.args.graph.now in
    states_done net c.args.order.now c.loop-node.node-index c.loop-node.states.items c.loop-node.calls.items c.loop-node-test.false
    ∙ (c.loop-node.invariant.states ∙ ap (λ (o : List ℕ). states_in_order net o c.args.states.now.items c.args.calls.items) c.requires.order)

pub returns-clause-calls : goal.returns-clause-calls
returns-clause-calls g c =
    let net = network_of g.O.Step.behavior c.args.graph.now in
    calls_done net c.args.order.now c.loop-node.node-index c.loop-node.states.items c.loop-node.calls.items c.loop-node-test.false
    ∙ (c.loop-node.invariant.calls ∙ ap (λ (o : List ℕ). calls_in_order net o c.args.states.now.items c.args.calls.items) c.requires.order)
