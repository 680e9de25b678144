use Rattle.std.proofs.Common.{◌≡◌, length, map, take}
use Rattle.expr_lang.specs.TreeOf.{tree_of}
use Rattle.op_kinds.specs.Compiled.{AreExpressions}
use Rattle.op_kinds.proofs.router.expressions.Given as goal

abbrev pub invariant-loop-route : goal.invariant-loop-route
invariant-loop-route l = record {
  read : AreExpressions (take l.route-index l.routes) (map tree_of l.exprs.items);
  many : length l.exprs.items ≡ l.route-index;
}
