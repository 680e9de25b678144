-- What a change makes of a checkpoint.
use Rattle.std.specs.Prelude.{◌≡◌, ℕ, ◌+◌, ◌-◌, ◌<◌, if◌then◌else◌, List, [], ◌∷◌, ◌++◌, length, nat_lt, Some, slice_get, slice_set}
use Rattle.std.specs.List.{All, fold}
use Rattle.file_tracker.specs.declared.row.Row.{Row}
use Rattle.checkpoint_store.specs.declared.Checkpoint.{Checkpoint}
use Rattle.checkpoint_store.specs.declared.Change.{Change}
use Rattle.checkpoint_store.specs.Fits.{HasId}

-- ids count from 1: a row takes its place in front of the end, or stands behind the last one
abbrev pub with_row : List Row → Row → List Row
with_row rows row = if nat_lt (row.id - 1) (length rows) then slice_set rows (row.id - 1) row else rows ++ row ∷ []

abbrev pub changed : Checkpoint → Change → Checkpoint
changed before change =
    record {
      eras = before.eras;
      output_length = change.output_length;
      observed = change.observed;
      next_id = change.next_id;
      rows = fold with_row before.rows change.rows;
    }

-- exactly the rows of the change are changed
pub record HasChanged (before : Checkpoint) (change : Change) (after : Checkpoint) : Type 0 where
  pub eras : after.eras ≡ before.eras
  pub output_length : after.output_length ≡ change.output_length
  pub observed : after.observed ≡ change.observed
  pub next_id : after.next_id ≡ change.next_id
  pub count : length after.rows + 1 ≡ change.next_id
  pub named : All (λ row. slice_get after.rows (row.id - 1) ≡ Some row) change.rows
  pub others : (place : ℕ) → place < length before.rows → (HasId change.rows (place + 1) → ⊥) → slice_get after.rows place ≡ slice_get before.rows place
