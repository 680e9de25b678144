use Rattle.std.proofs.Common.{◌∙◌}
use Rattle.graph_core.specs.Traces.{network_of}
use Rattle.graph_core.proofs.Pushing.{seen_first, order_within, close_more, close_none, close_whole}
use Rattle.graph_core.proofs.walk.close_all.Goals as goal

pub loop-node-preserved : goal.loop-node-preserved
loop-node-preserved g c = record {
  kept = c.close_one.ensures.kept ∙ c.loop-node.invariant.kept;
  walks = λ t p w. c.loop-node.invariant.walks t p
      (close_more (network_of g.O.Step.behavior c.args.graph.now) c.loop-node.states.items c.close_one.new.states.items t c.loop-node.out.items c.close_one.new.out.items p
      c.as_slice-order.result.now c.loop-node.node-index c.loop-node-test.true c.in_ok-close_one.ensures.walks w);
}

pub close_one-requires : goal.close_one-requires
close_one-requires g c = record {
  node = rw c.as_slice-order.ensures.value (order_within c.graph.inside.nodes.items c.args.graph.now c.graph.inside.order.items c.graph.view_is c.graph.invariant c.loop-node.node-index (rw c.as_slice-order.ensures.value at c.loop-node-test.true));
  states = c.loop-node.invariant.kept ∙ c.requires;
}

pub returns-clause-ordered : goal.returns-clause-ordered
returns-clause-ordered g c = seen_first c.graph.inside.nodes.items c.args.graph.now c.graph.inside.order.items c.graph.view_is c.graph.invariant

pub returns-clause-walks : goal.returns-clause-walks
returns-clause-walks g c =
    close_whole g.O.Step.behavior c.graph.inside.nodes.items c.args.graph.now c.graph.inside.order.items c.as_slice-order.result.now c.graph.view_is c.as_slice-order.ensures.value c.graph.invariant
    c.args.states.now.items c.loop-node.states.items c.args.out.now.items c.loop-node.out.items
    (c.loop-node.invariant.walks c.loop-node.states.items c.loop-node.out.items
    (close_none (network_of g.O.Step.behavior c.args.graph.now) c.loop-node.states.items c.loop-node.out.items c.as_slice-order.result.now c.loop-node.node-index c.loop-node-test.false))
