use Rattle.graph_core.specs.Traces.{network_of}
use Rattle.graph_core.proofs.Pushing.{seen_first, some_run, every_run}
use Rattle.graph_core.proofs.laws.determine_runs.Goals as goal

pub returns-clause-some_run : goal.returns-clause-some_run
returns-clause-some_run g c =
    let first = seen_first c.graph.inside.nodes.items c.args.graph.now c.graph.inside.order.items c.graph.view_is c.graph.invariant in
    let net = network_of g.O.Step.behavior c.args.graph.now in
    some_run net first

pub returns-clause-every_run : goal.returns-clause-every_run
returns-clause-every_run g c =
    let first = seen_first c.graph.inside.nodes.items c.args.graph.now c.graph.inside.order.items c.graph.view_is c.graph.invariant in
    let net = network_of g.O.Step.behavior c.args.graph.now in
    every_run net first
