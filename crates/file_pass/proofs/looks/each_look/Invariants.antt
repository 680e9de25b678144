use Rattle.std.proofs.Common.{◌≡◌, ◌≤◌, ◌-◌, length, map, take}
use Rattle.file_pass.specs.Inner.Looks.{idle_of}
use Rattle.file_pass.proofs.looks.each_look.Given as goal

-- the looks of the rows before this place
abbrev pub invariant-loop-place : goal.invariant-loop-place
invariant-loop-place l = record {
  within : l.place ≤ length l.tracker;
  are : l.looks.items ≡ map idle_of (take l.place l.tracker);
}

abbrev pub decreases-loop-place : goal.decreases-loop-place
decreases-loop-place l = length l.tracker - l.place
