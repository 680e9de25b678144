use Rattle.std.proofs.Common.{◌≡◌, ◌-◌, ◌*◌, ◌^◌, ◌≤◌, length}
use Rattle.recombine.specs.Steps.{text_bytes}
use Rattle.recombine.proofs.SpellingLemmas.{SoFar}
use Rattle.recombine.proofs.saving.restore.Given as goal

abbrev pub invariant-loop-index : goal.invariant-loop-index
invariant-loop-index l = record {
  so_far : SoFar l.bytes l.fn.at l.groups (l.count - l._index) l.place;
  size : length l.groups ≡ l._index;
  bytes : text_bytes l.groups ≤ l._index * 2 ^ 32;
}
