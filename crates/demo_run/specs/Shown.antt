-- What a demonstration shows.
use Rattle.std.specs.Prelude.{◌≡◌, ℕ, ◌+◌, ◌/◌, List, [], length, map, sum_by, Option, None, Some}
use Rattle.checkpoint_journal.specs.JournalOf.{HasCheckpoint}
use Rattle.checkpoint_store.specs.declared.Checkpoint.{Checkpoint}
use Rattle.demo_run.specs.Moves.{move_of}
use Rattle.demo_run.specs.Script.{script, settings_text}
use Rattle.demo_run.specs.declared.show.Demo.{Demo}
use Rattle.file_tracker.specs.declared.row.Row.{Row}
use Rattle.demo_run.specs.Steps.{IsOfRounds}
use Rattle.lifetimes.specs.Ended.{IsEnding, history_of}
use Rattle.lifetimes.specs.declared.ending.Ending.{Ending}
use Rattle.lifetimes.specs.declared.event.Event.{Event}
use Rattle.mem_world.specs.MemDisk.{seen_of}
use Rattle.outside.specs.Image.{Image}
use Rattle.outside.specs.declared.disk.DiskFile.{DiskFile}
use Rattle.poll_core.specs.Reopens.{kept_by}

abbrev pub rows_in : Option Checkpoint → List Row
rows_in None = []
rows_in (Some checkpoint) = checkpoint.rows

-- how many lines the files gave together
abbrev pub lines_of : List Row → ℕ
lines_of rows = sum_by (λ (row : Row). row.lines) rows

-- The image's checkpoint, where it has one, has so many rows, whose files gave so many lines, and keeps so many bytes of the
-- output.
pub record Keeps (files lines output : ℕ) (image : Image DiskFile) : Type 0 where
  pub checkpoint : Option Checkpoint
  pub has : HasCheckpoint checkpoint image
  pub files_are : files ≡ length (rows_in checkpoint)
  pub lines_are : lines ≡ lines_of (rows_in checkpoint)
  pub output_is : output ≡ kept_by checkpoint

-- So many rounds, each with a poll, and in each seventh with one more, which is stopped. The script had this ending, in whose
-- history the steps of others are those of the rounds, and the other numbers are those of its disk. Each round's line is kept.
pub record IsDemo (rounds : ℕ) (demo : Demo) : Type 0 where
  pub rounds_are : demo.rounds ≡ rounds
  pub polls : demo.polls ≡ rounds + rounds / 7
  pub stops : demo.stops ≡ rounds / 7
  pub events : List Event
  pub played : map move_of events ≡ script rounds
  pub ending : Ending
  pub ends : IsEnding settings_text events ending
  pub steps : IsOfRounds rounds (history_of ending.tree)
  pub keeps : Keeps demo.files demo.lines demo.output (seen_of ending.disk)
  pub every_line : demo.lines ≡ rounds
