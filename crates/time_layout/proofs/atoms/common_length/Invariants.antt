use Rattle.std.proofs.Common.{◌≡◌, ◌+◌, ◌≤◌, drop, length}
use Rattle.time_layout.specs.Atoms.{common_fold}
use Rattle.time_layout.proofs.atoms.common_length.Given as goal

abbrev pub invariant-loop-i : goal.invariant-loop-i
invariant-loop-i l = record { is : common_fold l.name l.text ≡ l.i + common_fold (drop l.i l.name) (drop l.i l.text); within : l.i ≤ length l.text }
