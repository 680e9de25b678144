use Rattle.std.proofs.Common.{◌≡◌, refl}
use Rattle.std.proofs.lemmas.Result.{err_from_is_err_and}
use Rattle.graph_core.specs.Wiring.{edges_of, wiring_of}
use Rattle.graph_core.specs.Inner.Reach.{lists_of}
use Rattle.graph_core.proofs.Graph.build.Goals as goal

pub returns-in_err-order-clause-refused : goal.returns-in_err-order-clause-refused
returns-in_err-order-clause-refused g c =
    let p = err_from_is_err_and c.from_residual-in_err-order.result c.from_residual-in_err-order.ensures.1 in
    let edges : lists_of c.deref-2.result.now ≡ edges_of (wiring_of c.args.nodes.items) =
    rw (c.deref-2.ensures.value, c.in_ok-edges.ensures, c.deref.ensures.value) refl in
    rw (p.1, p.2, ← edges) c.in_err-order.ensures.refused
