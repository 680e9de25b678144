-- What rows and an output stand for in a history.
use Rattle.std.specs.Prelude.{◌≡◌, ◌≢◌, ℕ, ◌+◌, ◌≤◌, List, length, take, None, Some, slice_get, All}
use Rattle.outside.specs.World.{History, bytes}
use Rattle.standing.specs.Closed.{Made, AreClosed, all_made, entries_in, flags_in}
use Rattle.standing.specs.Eras.{Eras, era_count, last_era, texts_of}
use Rattle.standing.specs.Marks.{Mark, of_id, numbered, untimed}
use Rattle.standing.specs.Owner.{IsOwner, MayBegin}
use Rattle.standing.specs.Part.{HasTaken, first_point, last_part}
use Rattle.standing.specs.Prefixes.{IsPrefix}
use Rattle.standing.specs.Rows.{Row, Checkpoint, IsRowAt, AreNumbered, KeepStates}
use Rattle.standing.specs.Rules.{output_text}
use Rattle.standing.specs.Times.{AreTimed, NoneLater}

-- These are all lines of the row: those of the tokens that it has taken of its owner's bytes, part by part, each once and in
-- order.
pub record RowStands (eras : Eras) (history : History) (row : Row) (lines : List Mark) : Type 0 where
  pub file : ℕ
  pub owner : IsOwner eras history row file
  pub begins : MayBegin eras.first history file row.start
  -- what the parts before the last one gave
  pub earlier : List Made
  pub closed : AreClosed eras (bytes history file) row.path row.born (first_point row) row.ends earlier
  pub parts : row.born + length row.ends ≡ era_count eras
  pub tokens : List (List ℕ)
  pub taken : HasTaken (last_era eras) (last_part (last_era eras) row) (bytes history file) tokens row
  pub all_lines : untimed lines ≡ numbered row.id 1 None (entries_in (all_made eras row earlier tokens))
  pub times : AreTimed (flags_in (all_made eras row earlier tokens)) lines

-- no row's front begins another's
abbrev pub AreFrontsApart : List Row → Type 0
AreFrontsApart rows = (place other : ℕ) (row other_row : Row) → IsRowAt rows place row → IsRowAt rows other other_row → place ≢ other → IsPrefix row.front other_row.front → ⊥

-- some row has this id
abbrev pub IsIdOf : List Row → ℕ → Type 0
IsIdOf rows id = (place : ℕ) × (row : Row) × IsRowAt rows place row × (row.id ≡ id)

-- Each line is of some row, and each row's lines are those that it stands for.
pub record LinesStand (eras : Eras) (history : History) (rows : List Row) (next_id : ℕ) (marks : List Mark) : Type 0 where
  pub ids : AreNumbered rows next_id
  pub each_row : (place : ℕ) (row : Row) → IsRowAt rows place row → RowStands eras history row (of_id row.id marks)
  pub fronts_apart : AreFrontsApart rows
  pub no_other_line : All (λ (mark : Mark). IsIdOf rows mark.id) marks

-- the output consists of whole lines, and they stand
pub record Stands (eras : Eras) (history : History) (rows : List Row) (next_id : ℕ) (output : List ℕ) : Type 0 where
  pub marks : List Mark
  pub whole_lines : output ≡ output_text eras.first marks
  pub lines_stand : LinesStand eras history rows next_id marks

-- The checkpoint fits the output file, whatever was read.
pub record IsSound (eras : Eras) (checkpoint : Checkpoint) (file : List ℕ) : Type 0 where
  pub texts : checkpoint.eras ≡ texts_of eras
  pub states : KeepStates (last_era eras) checkpoint.rows
  pub ids : AreNumbered checkpoint.rows checkpoint.next_id
  pub long_enough : checkpoint.output_length ≤ length file

-- The checkpoint, with what it keeps of the output file, stands for what was read in the history, and no line has a later time
-- than it tells.
pub record CheckpointStands (eras : Eras) (history : History) (checkpoint : Checkpoint) (file : List ℕ) : Type 0 where
  pub sound : IsSound eras checkpoint file
  pub stands : Stands eras history checkpoint.rows checkpoint.next_id (take checkpoint.output_length file)
  pub times : NoneLater checkpoint.observed stands.marks

-- The line is of this row: its entry is the one that the row's file gives at its place, and its number counts the lines
-- of the row that stand before it.
pub record IsLine (eras : Eras) (history : History) (rows : List Row) (front : List Mark) (mark : Mark) : Type 0 where
  pub place : ℕ
  pub row : Row
  pub at : IsRowAt rows place row
  pub id : row.id ≡ mark.id
  pub lines : List Mark
  pub stands : RowStands eras history row lines
  pub number : mark.number ≡ 1 + length (of_id mark.id front)
  pub entry : slice_get (entries_in (all_made eras row stands.earlier stands.tokens)) (length (of_id mark.id front)) ≡ Some mark.entry
