use Rattle.std.proofs.Common.{sym, ap, take, map, length, arith, ◌∷◌, [], length-append}
use Rattle.std.proofs.lemmas.Result.{err_from_is_err_and}
use Rattle.expr_lang.specs.TreeOf.{tree_of}
use Rattle.op_kinds.proofs.Compiled.{one_more_expression_at, routes_are_read}
use Rattle.op_kinds.proofs.Readings.{expression_at}
use Rattle.op_kinds.proofs.router.expressions.Goals as goal

pub returns-in_err-expression-clause-cause : goal.returns-in_err-expression-clause-cause
returns-in_err-expression-clause-cause c =
    let p = err_from_is_err_and c.from_residual.result c.from_residual.ensures.1 in
    rw (p.1, p.2) (expression_at c.args.routes.now c.loop-route.route-index c.route-item.result _ c.loop-route-test.true (sym c.route-item.is)
    (routes_are_read (take c.loop-route.route-index c.args.routes.now) (map tree_of c.loop-route.exprs.items) c.loop-route.invariant.read) c.in_err-expression.ensures.cause)

pub loop-route-preserved : goal.loop-route-preserved
loop-route-preserved c = record {
  read = one_more_expression_at c.args.routes.now c.loop-route.route-index c.loop-route.exprs.items c.push.new.self.items c.route-item.result _ c.loop-route-test.true (sym c.route-item.is) c.loop-route.invariant.read c.in_ok-expression.ensures.ok c.in_ok-push.ensures.items;
  many = omega (arith, ap length c.in_ok-push.ensures.items, length-append c.loop-route.exprs.items (c.in_ok-expression.field-0 ∷ []), c.loop-route.invariant.many);
}
