-- What keeping a pass makes of an image: its checkpoint stays, or becomes the next, beside the output that was synced.
use Rattle.std.specs.Prelude.{◌≡◌, ◌≢◌, ◌⊎◌, ℕ, List, Option}
use Rattle.checkpoint_journal.specs.JournalOf.{EndsWith}
use Rattle.checkpoint_journal.specs.Memory.{KeepsMemory}
use Rattle.checkpoint_journal.specs.Next.{HasNext}
use Rattle.checkpoint_journal.specs.Puts.{KeepsFiles}
use Rattle.checkpoint_journal.specs.declared.journal.Journal.{Journal}
use Rattle.checkpoint_store.specs.declared.Checkpoint.{Checkpoint}
use Rattle.outside.specs.Image.{Image}
use Rattle.outside.specs.declared.disk.DiskFile.{DiskFile}
use Rattle.outside.specs.declared.disk.DiskFile.TheVariants.{Settings, Output}

-- The images differ in the output alone, the settings file aside.
pub record DifferInOutput (one other : Image DiskFile) : Type 0 where
  pub same : (file : DiskFile) → file ≢ Settings → file ≢ Output → other file ≡ one file

-- The checkpoint is the old one or the next, and the next only beside the output that was read.
pub record Saves (journal : Option Journal) (after : Checkpoint) (output : List ℕ) (old new : Image DiskFile) : Type 0 where
  pub files : KeepsFiles old new
  pub choice : KeepsMemory journal old new ⊎ (HasNext journal after new × (old Output ≡ output))

-- The image has the next journal and ends with it, beside this output.
pub record IsSavedIn (journal : Journal) (after : Checkpoint) (output : List ℕ) (image : Image DiskFile) : Type 0 where
  pub ends : EndsWith journal after image
  pub output_is : image Output ≡ output
