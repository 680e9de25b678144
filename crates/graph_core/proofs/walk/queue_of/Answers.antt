use Rattle.std.proofs.lemmas.Result.{IfOk-weaker}
use Rattle.graph_core.specs.Wiring.{wiring_of}
use Rattle.graph_core.proofs.Delivering.{ports_of_index, deliveries_lead}
use Rattle.graph_core.proofs.walk.queue_of.Goals as goal

pub returns-clause-leads : goal.returns-clause-leads
returns-clause-leads g c =
    let ports = ports_of_index c.graph.inside.nodes.items c.args.node c.index.result.now (rw c.graph.view_is c.requires) c.index.ensures in
    IfOk-weaker c.deliveries_of.result _ _
    (λ queue items d h. rw (← c.graph.view_is)
    (deliveries_lead (wiring_of c.graph.inside.nodes.items) c.graph.inside.order.items c.graph.invariant c.args.node c.args.said.items d
    (rw ports (rw items at h)))) c.deliveries_of.ensures
