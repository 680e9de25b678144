-- The lines of an output, before they are spelled.
use Rattle.std.specs.Prelude.{ℕ, ◌+◌, ◌==◌, List, [], ◌∷◌, filter, map, Option, None}
use Rattle.entry_model.specs.LogRecord.{LogRecord}

-- a line: the id of its file's row, its number among the lines of that row, the time at which it was made, where it has one, and
-- its entry
pub record Mark : Type 0 where
  pub id : ℕ
  pub number : ℕ
  pub observed : Option ℕ
  pub entry : LogRecord

-- the lines of one row
abbrev pub of_id : ℕ → List Mark → List Mark
of_id id marks = filter (λ (mark : Mark). mark.id == id) marks

-- the entries as lines of one row, numbered in a row from this number, all made at one time
abbrev pub numbered : ℕ → ℕ → Option ℕ → List LogRecord → List Mark
numbered id number observed [] = []
numbered id number observed (entry ∷ entries) =
    record { id = id; number = number; observed = observed; entry = entry } ∷ numbered id (number + 1) observed entries

-- the lines without their times
abbrev pub untimed : List Mark → List Mark
untimed marks = map (λ (mark : Mark). record mark { observed = None }) marks
