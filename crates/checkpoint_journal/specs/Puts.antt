-- What a crash leaves while the next checkpoint is put.
use Rattle.std.specs.Prelude.{◌≡◌, ◌⊎◌, Option}
use Rattle.outside.specs.Image.{Image}
use Rattle.outside.specs.declared.disk.DiskFile.{DiskFile}
use Rattle.outside.specs.declared.disk.DiskFile.TheVariants.{Settings, Output}
use Rattle.checkpoint_store.specs.declared.Checkpoint.{Checkpoint}
use Rattle.checkpoint_journal.specs.Memory.{KeepsMemory}
use Rattle.checkpoint_journal.specs.Next.{HasNext}
use Rattle.checkpoint_journal.specs.declared.journal.Journal.{Journal}

-- the files that are no slots
pub record KeepsFiles (old new : Image DiskFile) : Type 0 where
  pub settings : new Settings ≡ old Settings
  pub output : new Output ≡ old Output

-- The old checkpoint stands, or the next one, behind it or beside it.
pub record Puts (journal : Option Journal) (after : Checkpoint) (old new : Image DiskFile) : Type 0 where
  pub files : KeepsFiles old new
  pub choice : KeepsMemory journal old new ⊎ HasNext journal after new
