-- Which row is a file's, and what a call changes of one row.
use Rattle.std.specs.Prelude.{◌≡◌, ℕ, ◌≤◌, List, Option, Some, slice_get, slice_set, position}
use Rattle.file_tracker.specs.declared.row.Row.{Row}
use Rattle.file_tracker.specs.Fronts.{begins, front_of}

-- the first place whose row's front is how the text begins
abbrev pub place_of : List ℕ → List Row → Option ℕ
place_of text rows = position (λ row. begins (front_of row) text) rows

-- the row at this place is changed so, and all others stay
abbrev pub ChangesAt : List Row → ℕ → (Row → Row) → List Row → Type 0
ChangesAt before place change after = (row : Row) → slice_get before place ≡ Some row → after ≡ slice_set before place (change row)

abbrev pub with_front : List ℕ → Row → Row
with_front grown row = record row { front = grown }

abbrev pub with_progress : ℕ → ℕ → ℕ → List ℕ → Row → Row
with_progress far cut made held row = record row { offset = far; records = cut; lines = made; state = held }

abbrev pub with_look : ℕ → ℕ → Row → Row
with_look length_seen looks row = record row { seen = length_seen; quiet = looks }

-- none of the three numbers is below the row's
pub record HasGone (row : Row) (far cut made : ℕ) : Type 0 where
  pub offset_rises : row.offset ≤ far
  pub records_rise : row.records ≤ cut
  pub lines_rise : row.lines ≤ made
