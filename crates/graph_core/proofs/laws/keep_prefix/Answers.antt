use Rattle.graph_core.specs.Traces.{network_of, inputs, closings}
use Rattle.graph_core.proofs.Pushing.{seen_first, prefix, prefix_inputs}
use Rattle.graph_core.proofs.laws.keep_prefix.Goals as goal

pub returns-clause-more_inputs : goal.returns-clause-more_inputs
returns-clause-more_inputs g c =
    let first = seen_first c.graph.inside.nodes.items c.args.graph.now c.graph.inside.order.items c.graph.view_is c.graph.invariant in
    let net = network_of g.O.Step.behavior c.args.graph.now in
    prefix_inputs net first

pub returns-clause-closed_run : goal.returns-clause-closed_run
returns-clause-closed_run g c =
    let first = seen_first c.graph.inside.nodes.items c.args.graph.now c.graph.inside.order.items c.graph.view_is c.graph.invariant in
    let net = network_of g.O.Step.behavior c.args.graph.now in
    λ from items. prefix net first from (inputs net items) (closings net)
