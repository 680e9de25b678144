use Rattle.std.proofs.Common.{arith, refl}
use Rattle.file_pass.proofs.Flagging.{flags_begin, flags_end}
use Rattle.file_pass.proofs.looks.flag_looks.Goals as goal

pub loop-place-init : goal.loop-place-init
loop-place-init c = record { within = omega arith; long = refl; flags = flags_begin c.args.looks.now c.args.tracker.now c.args.changed.now }

pub returns : goal.returns
returns c = flags_end c.args.looks.now c.args.tracker.now c.args.changed.now c.loop-place.changed c.loop-place.place c.loop-place.invariant.flags (omega (arith, c.loop-place-test.false))
