use Rattle.std.proofs.Common.{◌≡◌, Some, take}
use Rattle.glob_match.specs.Inner.Reader.{state_of, steps, start}
use Rattle.glob_match.proofs.Faults.{LastClosed}
use Rattle.glob_match.proofs.glob.read_characters.Given as goal

abbrev pub invariant-loop-at : goal.invariant-loop-at
invariant-loop-at l = record {
  reads : steps start (take l.at l.characters) ≡ Some (state_of l.reader);
  closed : LastClosed l.characters l.at l.closed;
}
