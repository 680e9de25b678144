use Rattle.std.proofs.Common.{take}
use Rattle.part_closing.proofs.closing.close_all.Given as goal
use Rattle.part_closing.specs.Closing.{HasClosed}

abbrev pub invariant-loop-place : goal.invariant-loop-place
invariant-loop-place l = HasClosed l.closer (take l.place l.tracker) l.closing
