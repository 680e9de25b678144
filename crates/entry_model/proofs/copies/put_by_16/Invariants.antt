use Rattle.std.proofs.Common.{◌≡◌, ◌+◌, ◌-◌, ◌≤◌, ◌++◌, length, take}
use Rattle.entry_model.proofs.copies.put_by_16.Given as goal

abbrev pub invariant-loop-at : goal.invariant-loop-at
invariant-loop-at l = record {
  size : length l.block ≡ length l.initial.block;
  reached : l.at ≤ length l.bytes;
  so_far : take (l.made + l.at) l.block ≡ take l.made l.initial.block ++ take l.at l.bytes;
}

abbrev pub decreases-loop-at : goal.decreases-loop-at
decreases-loop-at l = l.last - l.at
