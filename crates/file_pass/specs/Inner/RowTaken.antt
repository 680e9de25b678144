-- What reading on makes of the row at a place.
use Rattle.std.specs.Prelude.{◌≡◌, ◌⊎◌, ℕ, ◌+◌, ◌<◌, ◌≤◌, ◌-◌, min, nat_lt, List, [], length, Bool, false, Some, slice_get, slice_set}
use Rattle.file_tracker.specs.declared.row.Row.{Row}
use Rattle.outside.specs.World.{World}
use Rattle.standing.specs.Poll.{Poll}
use Rattle.standing.specs.Limits.{most_taken}
use Rattle.file_pass.specs.Fed.{GoesTo, last_of}
use Rattle.file_pass.specs.Flushed.{row_read, lines_read}
use Rattle.file_pass.specs.Reads.{Reads, piece_of}
use Rattle.file_pass.specs.Step.{Step}
use Rattle.file_pass.specs.declared.ending.Ending.{Ending}
use Rattle.file_pass.specs.declared.ending.Ending.TheVariants.{Whole}
use Rattle.file_pass.specs.declared.ending.OpenFile.{OpenFile}
use Rattle.file_pass.specs.declared.ending.RowFile.{RowFile}
use Rattle.file_pass.specs.declared.found.Found.{Found}
use Rattle.file_pass.specs.declared.found.Found.TheVariants.{Shorter, Read}

-- The file is shorter than the row's offset, and nothing is done.
pub record IsShorter (file : OpenFile) (row : Row) (step : Step) (old new : World) : Type 0 where
  pub short : file.size < row.offset
  pub same : step.after ≡ step.before
  pub none : step.added ≡ []
  pub still : new ≡ old

-- These bytes were read from its offset on, and their tokens taken, and what waited was flushed where the file has stood still for
-- so many looks. `more`: it was read as far as one pass goes, and there is more.
pub record IsReadOn (poll : Poll) (at : RowFile) (row : Row) (step : Step) (old new : World) : Type 0 where
  pub begins : row.offset ≤ at.file.size
  pub given : List ℕ
  pub ending : Ending
  pub more : Bool
  pub goes : GoesTo (last_of at.file.size row.offset) row.offset given ending
  pub read_row : step.after ≡ slice_set step.before at.place (row_read poll.rules at.file.size ending given row)
  pub lines : step.added ≡ lines_read poll at.file.size ending given row
  pub left : ending ≡ Whole → more ≡ nat_lt (row.offset + most_taken) at.file.size
  pub not_left : (ending ≡ Whole → ⊥) → more ≡ false
  pub reads : Reads (piece_of at.file row.offset given ending) old new

-- With what was found it is told which of both it was.
pub record RowTaken (poll : Poll) (at : RowFile) (found : Found) (step : Step) (old new : World) : Type 0 where
  pub row : Row
  pub there : slice_get step.before at.place ≡ Some row
  pub cost : step.gain.taken ≤ min most_taken (at.file.size - row.offset)
  pub how : (IsShorter at.file row step old new × (found ≡ Shorter))
      ⊎ ((on : IsReadOn poll at row step old new) × (found ≡ Read on.ending on.more (length step.added)))
