-- Histories whose files a poll takes whole.
use Rattle.std.specs.Prelude.{◌≡◌, ℕ, ◌≤◌, ◌<◌, false, List, [], ◌∷◌, length, Some}
use Rattle.checkpoint_journal.specs.JournalOf.{HasCheckpoint}
use Rattle.checkpoint_store.specs.declared.Checkpoint.{Checkpoint}
use Rattle.outside.specs.Image.{Image}
use Rattle.outside.specs.World.{create, append, rename, remove, look, miss, unlisted, History, bytes}
use Rattle.outside.specs.declared.disk.DiskFile.{DiskFile}
use Rattle.standing.specs.Eras.{Eras, last_era}
use Rattle.standing.specs.Limits.{row_limit, most_taken, is_compressed}
use Rattle.standing.specs.Moments.{IsNamed}
use Rattle.standing.specs.Owner.{IsOwner}
use Rattle.standing.specs.Pass.{IsReachable}
use Rattle.standing.specs.Reached.{Reached}
use Rattle.standing.specs.Rows.{Row, IsRowAt}
use Rattle.standing.specs.Rules.{Includes}

-- the files that there ever were
abbrev pub created : History → List ℕ
created [] = []
created (create file _ ∷ before) = file ∷ created before
created (append _ _ ∷ before) = created before
created (rename _ _ ∷ before) = created before
created (remove _ ∷ before) = created before
created (look _ ∷ before) = created before
created (miss _ ∷ before) = created before
created (unlisted _ ∷ before) = created before

-- No file is longer than 16 MiB or begins as those of gzip do, none lies in a folder of more than 32 components, and there
-- are no more files than rows can be had.
pub record IsSmall (history : History) : Type 0 where
  pub short : (file : ℕ) → length (bytes history file) ≤ most_taken
  pub plain : (file : ℕ) → is_compressed (bytes history file) ≡ false
  pub reachable : (path : List ℕ) (file : ℕ) → IsNamed history path file → IsReachable path
  pub few : length (created history) ≤ row_limit

-- Some row is the file's, and it has taken all that can be taken of the file's bytes.
pub record IsWhole (eras : Eras) (history : History) (rows : List Row) (file : ℕ) : Type 0 where
  pub place : ℕ
  pub row : Row
  pub at : IsRowAt rows place row
  pub owner : IsOwner eras history row file
  pub reached : Reached (last_era eras) (bytes history file) row (length (bytes history file))

-- every file that isn't empty and has a path to be read is taken as a whole
abbrev pub AreWhole : Eras → History → List Row → Type 0
AreWhole eras history rows = (path : List ℕ) (file : ℕ) → Includes (last_era eras) path → IsNamed history path file → 0 < length (bytes history file) → IsWhole eras history rows file

-- The image has a checkpoint, and by its rows every such file is.
pub record IsReachedIn (eras : Eras) (history : History) (image : Image DiskFile) : Type 0 where
  pub checkpoint : Checkpoint
  pub has : HasCheckpoint (Some checkpoint) image
  pub whole : AreWhole eras history checkpoint.rows
