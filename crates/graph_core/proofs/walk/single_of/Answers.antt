use Rattle.graph_core.specs.Wiring.{wiring_of}
use Rattle.graph_core.proofs.Delivering.{ports_of_index, deliveries_lead, some_weaker, has_only}
use Rattle.graph_core.proofs.walk.single_of.Goals as goal

pub returns-clause-only : goal.returns-clause-only
returns-clause-only g c =
    let ports = ports_of_index c.graph.inside.nodes.items c.args.node c.index.result.now (rw c.graph.view_is c.requires) c.index.ensures in
    some_weaker c.take_only.result _ _ (λ d only. rw (← c.graph.view_is) (rw ports only)) c.take_only.ensures.only

pub returns-clause-leads : goal.returns-clause-leads
returns-clause-leads g c =
    let ports = ports_of_index c.graph.inside.nodes.items c.args.node c.index.result.now (rw c.graph.view_is c.requires) c.index.ensures in
    some_weaker c.take_only.result _ _
    (λ d only. rw (← c.graph.view_is)
    (deliveries_lead (wiring_of c.graph.inside.nodes.items) c.graph.inside.order.items c.graph.invariant c.args.node c.args.said.now.items d
    (rw ports (has_only _ d only)))) c.take_only.ensures.only
