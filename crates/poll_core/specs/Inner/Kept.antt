-- What keeping a pass makes of a disk.
use Rattle.std.specs.Prelude.{◌≡◌, ◌⊎◌, ℕ, Option, Some}
use Rattle.checkpoint_journal.specs.Next.{IsNext}
use Rattle.checkpoint_journal.specs.Written.{IsWorn}
use Rattle.checkpoint_journal.specs.declared.journal.Journal.{Journal}
use Rattle.file_pass.specs.declared.taking.Taking.{Taking}
use Rattle.outside.specs.Images.{Images}
use Rattle.outside.specs.declared.disk.DiskFile.{DiskFile}
use Rattle.outside.specs.declared.disk.DiskFile.TheVariants.{Output}
use Rattle.poll_core.specs.Inner.Begun.{IsQuiet}
use Rattle.poll_core.specs.Saves.{IsSavedIn}
use Rattle.poll_core.specs.Taken.{Keeping}
use Rattle.standing.specs.Pass.{time_of}
use Rattle.slot_store.specs.Committed.{LeavesOne}
use Rattle.slot_store.specs.Synced.{EachLeft}

-- The greatest time that is kept once this was taken: the poll's, where something is to be kept, and else as before.
abbrev pub KeepsTime : Option Journal → ℕ → Taking → Option ℕ → ℕ → ℕ → Type 0
KeepsTime journal kept taking stamp before after =
    (IsQuiet journal kept taking × (after ≡ before)) ⊎ ((IsQuiet journal kept taking → ⊥) × (after ≡ time_of stamp before))

-- The checkpoint of what was taken was written, and a crash leaves it beside the output that was read, and nothing else.
pub record IsSaved {D : Type 0} (images : Images DiskFile D) (keeping : Keeping) (journal : Option Journal) (next : Journal) (old new : D) : Type 0 where
  pub each : EachLeft images new (IsSavedIn next keeping.after (images.seen old Output))
  pub one : LeavesOne images new
  pub next_is : IsNext journal keeping.after keeping.change next
  pub not_worn : IsWorn journal → ⊥

-- There was nothing to write, and nothing was.
pub record IsLeft {D : Type 0} (journal after : Option Journal) (kept : ℕ) (taking : Taking) (old new : D) : Type 0 where
  pub quiet : IsQuiet journal kept taking
  pub same : after ≡ journal
  pub still : new ≡ old

-- What stood before, what was taken behind that, and what of it is to be kept.
pub record ToKeep : Type 0 where
  pub journal : Option Journal
  pub kept : ℕ
  pub taking : Taking
  pub keeping : Keeping

abbrev pub to_keep : Option Journal → ℕ → Taking → Keeping → ToKeep
to_keep journal kept taking keeping = record { journal = journal; kept = kept; taking = taking; keeping = keeping }

abbrev pub Keeps : {D : Type 0} → Images DiskFile D → ToKeep → Option Journal → D → D → Type 0
Keeps images all after old new = IsLeft all.journal after all.kept all.taking old new
    ⊎ ((next : Journal) × (after ≡ Some next) × IsSaved images all.keeping all.journal next old new × (IsQuiet all.journal all.kept all.taking → ⊥))
