use Rattle.std.proofs.Common.{◌≡◌, ◌≤◌, drop, length}
use Rattle.time_layout.specs.Parts.{parts_read}
use Rattle.time_layout.proofs.parts.read_parts.Given as goal

abbrev pub invariant-loop-part : goal.invariant-loop-part
invariant-loop-part l = record { is : parts_read l.parts l.text 0 l.fn.nothing ≡ parts_read (drop l.part-index l.parts) l.text l.at l.said; within : l.at ≤ length l.text }
