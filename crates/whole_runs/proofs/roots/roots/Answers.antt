use Rattle.graph_core.specs.Traces.{network_of}
use Rattle.whole_runs.proofs.Adding.{roots_are}
use Rattle.whole_runs.proofs.roots.roots.Goals as goal

pub returns : goal.returns
returns g c =
    roots_are (network_of g.O.Step.behavior c.args.graph.now) c.args.items.items c.args.order.now c.closed_nodes-nodes.result.now c.args.closed c.in_ok-calls.calls.items c.add_closings.new.calls.items
    c.requires c.closed_nodes-nodes.ensures c.in_ok-calls.ensures c.in_ok-add_closings.ensures
