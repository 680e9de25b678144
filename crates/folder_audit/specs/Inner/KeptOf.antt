-- What an audit goes by, of an image.
use Rattle.std.specs.Prelude.{◌≡◌, ◌≤◌, length, take}
use Rattle.checkpoint_store.specs.Limits.{newest}
use Rattle.checkpoint_store.specs.Rules.{IsCheckpoint}
use Rattle.checkpoint_store.specs.declared.Checkpoint.{Checkpoint}
use Rattle.folder_audit.specs.KeptFiles.{texts_of}
use Rattle.folder_audit.specs.Limits.{largest_kept}
use Rattle.folder_audit.specs.Refusals.{Flush, IsWhole}
use Rattle.folder_audit.specs.declared.kept.Kept.{Kept}
use Rattle.kept_lines.specs.Split.{AreTexts}
use Rattle.outside.specs.Image.{Image}
use Rattle.outside.specs.declared.disk.DiskFile.{DiskFile}
use Rattle.outside.specs.declared.disk.DiskFile.TheVariants.{Output}
use Rattle.pipeline.specs.declared.Pipeline.{Pipeline}

pub record IsKept (image : Image DiskFile) (kept : Kept) : Type 0 where
  pub checkpoint : Checkpoint
  pub lawful : IsCheckpoint newest checkpoint
  pub rows : kept.rows ≡ checkpoint.rows
  pub last : Pipeline
  pub whole : IsWhole image checkpoint kept.pipes.items last
  pub flush_off : Flush kept.pipes.items → ⊥
  pub small : checkpoint.output_length ≤ largest_kept
  pub texts : AreTexts (take checkpoint.output_length (image Output)) (length checkpoint.rows) (texts_of kept)
