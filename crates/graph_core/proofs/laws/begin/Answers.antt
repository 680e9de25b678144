use Rattle.std.proofs.Common.{[]}
use Rattle.graph_core.specs.Traces.{network_of}
use Rattle.graph_core.specs.Inner.Walk.{done}
use Rattle.graph_core.proofs.Pushing.{seen_first, served}
use Rattle.graph_core.proofs.laws.begin.Goals as goal

pub returns : goal.returns
returns g c =
    let first = seen_first c.graph.inside.nodes.items c.args.graph.now c.graph.inside.order.items c.graph.view_is c.graph.invariant in
    let net = network_of g.O.Step.behavior c.args.graph.now in
    λ from before. served net first from from before before [] done
