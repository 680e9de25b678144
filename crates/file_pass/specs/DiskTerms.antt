-- What a pass does to a disk: it puts lines behind the output.
use Rattle.std.specs.Prelude.{◌≡◌, ℕ, ◌+◌, ◌≤◌, List, [], ◌++◌, length, Option, Some, None, ⊤, IsTrue}
use Rattle.outside.specs.Crash.{Passes}
use Rattle.outside.specs.DiskMeaning.{DiskMeaning}
use Rattle.outside.specs.Image.{AtFile, KeepsFront}
use Rattle.outside.specs.declared.disk.DiskFile.TheVariants.{Output}
use Rattle.slot_store.specs.OnlyRead.{KeepsTerms}

-- a count of calls doesn't fall, where it is told
abbrev pub NoFewer : Option ℕ → Option ℕ → Type 0
NoFewer None None = ⊤
NoFewer None (Some _) = ⊥
NoFewer (Some _) None = ⊥
NoFewer (Some before) (Some after) = before ≤ after

-- At each moment a crash leaves all files as they were, but for the output, which is no shorter and stands as it was up to
-- this place; and nothing is written to a slot.
pub record KeepsDisk {D : Type 0} (meaning : DiskMeaning D) (end : ℕ) (old new : D) : Type 0 where
  pub terms : KeepsTerms meaning old new
  pub crash : (kept : ℕ) → kept ≤ end → Passes meaning.images (AtFile Output (KeepsFront kept)) old new
  pub written : meaning.written new ≡ meaning.written old
  pub done : NoFewer (meaning.done old) (meaning.done new)

-- the file has these bytes behind what it had
abbrev pub Longer : List ℕ → List ℕ → List ℕ → Type 0
Longer added old new = new ≡ old ++ added

-- The output is longer by these bytes, which ended at the one place and end at the other.
pub record Appends {D : Type 0} (meaning : DiskMeaning D) (added : List ℕ) (end after : ℕ) (old new : D) : Type 0 where
  pub end_is : after ≡ end + length added
  pub output : IsTrue (meaning.images.tells old) → AtFile Output (Longer added) (meaning.images.seen old) (meaning.images.seen new)
  -- without them nothing is done
  pub idle : added ≡ [] → new ≡ old
