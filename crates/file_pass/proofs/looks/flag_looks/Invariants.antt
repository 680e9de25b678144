use Rattle.std.proofs.Common.{◌≡◌, ◌≤◌, ◌-◌, length}
use Rattle.file_pass.proofs.Flagging.{FlagsUpTo}
use Rattle.file_pass.proofs.looks.flag_looks.Given as goal

-- the rows before this place are flagged
abbrev pub invariant-loop-place : goal.invariant-loop-place
invariant-loop-place l = record {
  within : l.place ≤ length l.looks;
  long : length l.changed ≡ length l.fn.changed;
  flags : FlagsUpTo l.looks l.tracker l.fn.changed l.changed l.place;
}

abbrev pub decreases-loop-place : goal.decreases-loop-place
decreases-loop-place l = length l.looks - l.place
