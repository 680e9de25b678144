use Rattle.std.proofs.Common.{◌≡◌, Some, take}
use Rattle.field_paths.specs.Reader.{state_of, steps, start}
use Rattle.field_paths.proofs.path.FieldPath.read.Given as goal

abbrev pub invariant-loop-at : goal.invariant-loop-at
invariant-loop-at l = steps start (take l.at l.bytes) ≡ Some (state_of l.reader)
