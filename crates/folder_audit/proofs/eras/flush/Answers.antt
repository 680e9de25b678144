use Rattle.std.proofs.Common.{sym, arith, rules}
use Rattle.folder_audit.proofs.eras.flush.Goals as goal

pub returns-then-flush_after-gt0 : goal.returns-then-flush_after-gt0
returns-then-flush_after-gt0 c = (
  λ yes. (c.loop-pipe.pipe-index, c.pipe-item.result, c.loop-pipe-test.true, sym c.pipe-item.is, omega (arith, c.flush_after.ensures, c.if-flush_after-gt0.true)),
  λ some. search rules,
)

pub returns : goal.returns
returns c = (
  λ no. cc,
  λ some.
      let zero = c.loop-pipe.invariant some.0 some.1 (omega (arith, some.2, c.loop-pipe-test.false)) some.2 in
      absurd (omega (arith, rw some.3 at zero, some.4)),
)
