use Rattle.graph_core.specs.Inner.Reach.{lists_of}
use Rattle.graph_core.specs.Faults.{IsAccepted}
use Rattle.graph_core.proofs.Checks.{accepted_built}
use Rattle.graph_core.proofs.build.order_of.Goals as goal

pub returns-clause-accepted : goal.returns-clause-accepted
returns-clause-accepted c =
    let accepted : IsAccepted (lists_of c.args.edges.now) = record {
      within = c.in_default.ensures;
      no_cycle = rw c.in_default-2.is at c.in_ok-node.ensures;
      few_routes = rw c.if-branch.false at c.in_ok-has_too_many_routes.ensures;
    } in
    (accepted, accepted_built (lists_of c.args.edges.now) c.in_ok-closing_order.field-0.items accepted c.in_ok-closing_order.ensures)
