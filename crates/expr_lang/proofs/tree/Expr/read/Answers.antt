use Rattle.std.proofs.Common.{arith}
use Rattle.expr_lang.proofs.Outcomes.{fault_is, too_long_tree, expression_is}
use Rattle.expr_lang.proofs.tree.Expr.read.Goals as goal

pub returns-in-Err-clause-fault : goal.returns-in-Err-clause-fault
returns-in-Err-clause-fault c = rw c.within.ensures (fault_is c.args.text.now c.in-Err.fault c.in-Err.ensures.fault)

pub returns-then-text-gt-MAX_LENGTH-clause-fault : goal.returns-then-text-gt-MAX_LENGTH-clause-fault
returns-then-text-gt-MAX_LENGTH-clause-fault c = too_long_tree c.args.text.now c.in-Ok.root (let l = c.if-text-gt-MAX_LENGTH.true in omega (arith, l)) c.in-Ok.ensures.ok

pub returns-in_ok-new-in-Ok-clause-ok : goal.returns-in_ok-new-in-Ok-clause-ok
returns-in_ok-new-in-Ok-clause-ok c =
    rw c.in_ok-new-in-Ok.ensures (expression_is c.args.text.now c.in-Ok.root c.in-Ok.ensures.ok (let l = c.if-text-gt-MAX_LENGTH.false in omega (arith, l)))
