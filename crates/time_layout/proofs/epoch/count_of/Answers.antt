use Rattle.std.proofs.Common.{arith}
use Rattle.time_layout.proofs.Counting.{past_here}
use Rattle.time_layout.proofs.epoch.count_of.Goals as goal

pub returns-in-None : goal.returns-in-None
returns-in-None c = past_here c.args.digits.now c.loop-digit.digit-index _ c.loop-digit-test.true (omega (arith, c.loop-digit.invariant, c.in-None.ensures))
