use Rattle.std.proofs.Common.{◌≡◌, ◌≤◌, ◌+◌, ◌-◌, ℕ, length}
use Rattle.out_segments.specs.MemContents.{part_bytes}
use Rattle.out_segments.proofs.memory.contents.hold_part.Given as goal

abbrev pub invariant-loop-alloc : goal.invariant-loop-alloc
invariant-loop-alloc l = record {
  same : (other : ℕ) → part_bytes l.parts.items other ≡ part_bytes l.fn.parts.items other;
  kept : length l.fn.parts.items ≤ length l.parts.items;
  few : length l.fn.parts.items ≤ 4294967296 → length l.parts.items ≤ 4294967296;
}

abbrev pub decreases-loop-alloc : goal.decreases-loop-alloc
decreases-loop-alloc l = l.number + 1 - length l.parts.items
