-- How many calls that change a disk succeeded.
use Rattle.std.specs.Prelude.{◌≡◌, ℕ, ◌≤◌, Option}
use Rattle.outside.specs.DiskMeaning.{DiskMeaning}
use Rattle.slot_store.specs.Counted.{DoneMore}
use Rattle.slot_store.specs.OnlyRead.{KeepsTerms}

-- at most so many more, where the disk tells it
abbrev pub DoneAtMost : ℕ → Option ℕ → Option ℕ → Type 0
DoneAtMost calls before after = (some : ℕ) × (some ≤ calls) × DoneMore some before after

-- At most so many calls that change the disk succeeded, and no byte went to a slot. Of an opening they are cuts and syncs.
pub record CutsAndSyncs {D : Type 0} (calls : ℕ) (meaning : DiskMeaning D) (old new : D) : Type 0 where
  pub done : DoneAtMost calls (meaning.done old) (meaning.done new)
  pub written : meaning.written new ≡ meaning.written old
  pub terms : KeepsTerms meaning old new
