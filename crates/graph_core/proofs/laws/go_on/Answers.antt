use Rattle.graph_core.specs.Traces.{network_of}
use Rattle.graph_core.proofs.Walks.{continues}
use Rattle.graph_core.proofs.Pushing.{seen_first}
use Rattle.graph_core.proofs.laws.go_on.Goals as goal

pub returns-clause-states : goal.returns-clause-states
returns-clause-states g c =
    let first = seen_first c.graph.inside.nodes.items c.args.graph.now c.graph.inside.order.items c.graph.view_is c.graph.invariant in
    let net = network_of g.O.Step.behavior c.args.graph.now in
    λ from earlier later. (continues net first from earlier later).states

pub returns-clause-items : goal.returns-clause-items
returns-clause-items g c =
    let first = seen_first c.graph.inside.nodes.items c.args.graph.now c.graph.inside.order.items c.graph.view_is c.graph.invariant in
    let net = network_of g.O.Step.behavior c.args.graph.now in
    λ from earlier later. (continues net first from earlier later).items
