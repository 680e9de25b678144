use Rattle.std.proofs.Common.{◌≡◌, ◌≤◌, take, reverse}
use Rattle.out_segments.specs.MemCount.{done_count}
use Rattle.out_segments.proofs.memory.store.Store.done.Given as goal

abbrev pub invariant-loop-entry : goal.invariant-loop-entry
invariant-loop-entry l = (l.done ≡ done_count (reverse (take l.entry-index l.self.log.items))) × (l.done ≤ l.entry-index)
