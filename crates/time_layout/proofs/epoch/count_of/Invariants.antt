use Rattle.std.proofs.Common.{◌≡◌, take}
use Rattle.time_layout.specs.Atoms.{value_of}
use Rattle.time_layout.proofs.epoch.count_of.Given as goal

abbrev pub invariant-loop-digit : goal.invariant-loop-digit
invariant-loop-digit l = l.count ≡ value_of (take l.digit-index l.digits)
