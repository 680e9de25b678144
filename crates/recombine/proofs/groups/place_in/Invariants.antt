use Rattle.std.proofs.Common.{◌≤◌, ◌-◌, length, take}
use Rattle.recombine.specs.Sources.{AreOfOthers}
use Rattle.recombine.specs.Table.{groups_seen}
use Rattle.recombine.proofs.groups.place_in.Given as goal

abbrev pub invariant-places : goal.invariant-places
invariant-places l = record {
  within : l.from ≤ length l.marks;
  others : AreOfOthers l.source (groups_seen (take l.from l.groups));
}

abbrev pub decreases-places : goal.decreases-places
decreases-places l = length l.marks - l.from
