use Rattle.std.proofs.Common.{◌≡◌, ◌≤◌, length, take}
use Rattle.glob_match.proofs.name.decode.Given as goal

abbrev pub invariant-loop-character : goal.invariant-loop-character
invariant-loop-character l = record {
  within : l.count ≤ length l.room;
  front : take l.count l.room ≡ l.yielded;
}
