-- What an audit goes by.
use Rattle.std.specs.Prelude.{◌≡◌, ℕ, ◌+◌, ◌≤◌, List, length, map, Some, slice_get, Contains}
use Rattle.auditor.specs.KeepsOrder.{KeepsOrder}
use Rattle.checkpoint_store.specs.Limits.{output_limit}
use Rattle.file_tracker.specs.Limits.{row_limit}
use Rattle.folder_audit.specs.declared.kept.Kept.{Kept}
use Rattle.pipeline.specs.declared.Pipeline.{Pipeline}
use Rattle.standing.specs.Included.{IsIncluded}
use Rattle.standing.specs.Rows.{Row, IsRowAt}

-- The row keeps the order of its numbers, and has a part for each era from the one in which it was made.
pub record IsFitRow (eras : ℕ) (place : ℕ) (row : Row) : Type 0 where
  pub order : KeepsOrder row
  pub begun : row.start ≤ row.offset
  pub id : row.id ≡ place + 1
  pub born : 1 ≤ row.born
  pub parts : row.born + length row.ends ≡ eras
  pub lines : row.lines ≤ output_limit

abbrev pub AreFitRows : ℕ → List Row → Type 0
AreFitRows eras rows = (place : ℕ) (row : Row) → IsRowAt rows place row → IsFitRow eras place row

-- the last of the pipelines
abbrev pub IsLast : List Pipeline → Pipeline → Type 0
IsLast pipes last = (before : ℕ) × (length pipes ≡ before + 1) × (slice_get pipes before ≡ Some last)

-- the lines of each row
abbrev pub texts_of : Kept → List (List ℕ)
texts_of kept = map (λ text. text.items) kept.lines.items

-- what is kept fits together
pub record IsFit (kept : Kept) : Type 0 where
  pub some : 1 ≤ length kept.pipes.items
  pub rows : AreFitRows (length kept.pipes.items) kept.rows
  pub few : length kept.rows ≤ row_limit
  pub many : length kept.lines.items ≡ length kept.rows

-- the path is to be read by the last of the pipelines
abbrev pub IsToRead : List Pipeline → List ℕ → Type 0
IsToRead pipes path = (last : Pipeline) → IsLast pipes last → IsIncluded last.include.items last.exclude.items path

abbrev pub AreToRead : List Pipeline → List (List ℕ) → Type 0
AreToRead pipes paths = (path : List ℕ) → Contains paths path → IsToRead pipes path
