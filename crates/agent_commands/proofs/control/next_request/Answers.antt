use Rattle.std.proofs.Common.{◌∙◌, arith, length-set}
use Rattle.std.specs.Prelude.{◌∷◌, []}
use Rattle.agent_commands.proofs.Controlling.{front_on_told, too_much_told, spends_told}
use Rattle.agent_commands.proofs.control.next_request.Goals as goal

pub returns-then-byte-eq10-clause-spends : goal.returns-then-byte-eq10-clause-spends
returns-then-byte-eq10-clause-spends g c =
    spends_told c.loop-left.line c.loop-left.filled (c.in-Some.byte ∷ []) _ _ _ _ _ _ (λ x y gives. gives) (omega arith) (omega (arith, c.loop-left.invariant.counted, c.loop-left-test.true)) c.loop-left.invariant.taken (rw c.in-Some.is at c.in_ok-byte.ensures.byte)

pub returns-then-filled-eq-MAX_LINE-clause-spends : goal.returns-then-filled-eq-MAX_LINE-clause-spends
returns-then-filled-eq-MAX_LINE-clause-spends g c =
    spends_told c.loop-left.line c.loop-left.filled (c.in-Some.byte ∷ []) _ _ _ _ _ _ (λ x y gives. gives) (omega arith) (omega (arith, c.loop-left.invariant.counted, c.loop-left-test.true)) c.loop-left.invariant.taken (rw c.in-Some.is at c.in_ok-byte.ensures.byte)

pub returns-then-filled-eq-MAX_LINE-clause-asks : goal.returns-then-filled-eq-MAX_LINE-clause-asks
returns-then-filled-eq-MAX_LINE-clause-asks g c =
    too_much_told c.loop-left.line _ c.in-Some.byte _ _ _ c.loop-left.invariant.long (omega (arith, c.if-filled-eq-MAX_LINE.true, c.loop-left.invariant.counted, c.loop-left-test.true)) c.if-byte-eq10.false (rw c.if-filled-eq-MAX_LINE.true at c.loop-left.invariant.taken) (rw c.in-Some.is at c.in_ok-byte.ensures.byte)

pub loop-left-preserved : goal.loop-left-preserved
loop-left-preserved g c = record {
  long = omega (arith, length-set c.loop-left.line c.loop-left.filled c.in-Some.byte, c.loop-left.invariant.long);
  within = omega (arith, c.loop-left.invariant.within, c.if-filled-eq-MAX_LINE.false);
  counted = omega (arith, c.loop-left.invariant.counted, c.loop-left-test.true);
  taken = front_on_told c.loop-left.line c.loop-left.filled c.in-Some.byte _ _ _ (omega (arith, c.loop-left.invariant.long, c.loop-left.invariant.within, c.if-filled-eq-MAX_LINE.false)) c.if-byte-eq10.false c.loop-left.invariant.taken (rw c.in-Some.is at c.in_ok-byte.ensures.byte);
  cause = c.in_ok-byte.ensures.cause ∙ c.loop-left.invariant.cause;
}
