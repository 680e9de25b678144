-- What was taken of a part of a file's bytes, which may begin anywhere.
use Rattle.std.specs.Prelude.{◌≡◌, ℕ, ◌+◌, ◌-◌, ◌≤◌, List, [], ◌∷◌, length, drop}
use Rattle.entry_model.specs.LogRecord.{LogRecord}
use Rattle.file_tracker.specs.declared.ends.End.{End}
use Rattle.standing.specs.Rows.{Row}
use Rattle.standing.specs.Rules.{Rules}
use Rattle.standing.specs.Tokens.{UpTo}

-- where the part begins, how many tokens and lines stand before it, and the state that they left
pub record Part : Type 0 where
  pub start : ℕ
  pub records : ℕ
  pub lines : ℕ
  pub state : List ℕ

-- all from the start on, with nothing before it
abbrev pub whole : Rules → ℕ → Part
whole rules start = record { start = start; records = 0; lines = 0; state = rules.fresh }

abbrev pub part_output : Rules → Part → List ℕ → List (List ℕ) → List LogRecord
part_output rules part path tokens = rules.made path part.records part.state tokens

-- where the last part of a row begins: at the end of the one before it, or where reading began
abbrev pub first_point : Row → End
first_point row = record { offset = row.start; records = 0; lines = 0 }

abbrev pub last_point : End → List End → End
last_point from [] = from
last_point from (end ∷ ends) = last_point end ends

abbrev pub part_from : Rules → End → Part
part_from rules point = record { start = point.offset; records = point.records; lines = point.lines; state = rules.fresh }

abbrev pub last_part : Rules → Row → Part
last_part rules row = part_from rules (last_point (first_point row) row.ends)

-- the row has taken these tokens of the part and no others
pub record HasTaken (rules : Rules) (part : Part) (content : List ℕ) (tokens : List (List ℕ)) (row : Row) : Type 0 where
  pub begins : part.start ≤ row.offset
  pub within : row.offset ≤ length content
  pub bound : UpTo rules (drop part.start content) (row.offset - part.start) tokens
  pub records : row.records ≡ part.records + length tokens
  pub lines : row.lines ≡ part.lines + length (part_output rules part row.path tokens)
  pub state : row.state ≡ rules.state_after row.path part.records part.state tokens
