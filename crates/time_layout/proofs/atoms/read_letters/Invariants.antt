use Rattle.std.proofs.Common.{◌≡◌, ◌≤◌, drop, length}
use Rattle.time_layout.specs.Atoms.{letters}
use Rattle.time_layout.proofs.atoms.read_letters.Given as goal

abbrev pub invariant-loop-byte : goal.invariant-loop-byte
invariant-loop-byte l = record { is : letters l.name l.text l.at ≡ letters (drop l.byte-index l.name) l.text l.next; within : l.next ≤ length l.text }
