-- Which rows are flagged: those that are new, or that have changed.
use Rattle.std.specs.Prelude.{◌≡◌, ◌≢◌, ◌⊎◌, ℕ, ◌<◌, ◌≤◌, List, length, Bool, false, true, Option, None, Some, slice_get, ⊤}
use Rattle.file_tracker.specs.declared.row.Row.{Row}
use Rattle.file_pass.specs.Fed.{rules_in}
use Rattle.file_pass.specs.Grown.{FlagsGrowth}
use Rattle.file_pass.specs.declared.setup.Setup.{Setup}
use Rattle.file_pass.specs.declared.taking.Taking.{Taking}

-- more of the file's front was seen, or the file was read further, or what its operators keep or what is remembered of the last
-- look at it differs
abbrev pub HasChanged : Row → Row → Type 0
HasChanged before after =
    (length before.front < length after.front) ⊎ ((before.offset < after.offset)
    ⊎ ((after.state ≢ before.state) ⊎ ((after.seen ≢ before.seen) ⊎ (after.quiet ≢ before.quiet))))

-- the row that stands at a place is new, or has changed
abbrev pub IsNewOrChanged : Option Row → Option Row → Type 0
IsNewOrChanged None None = ⊥
IsNewOrChanged None (Some after) = ⊤
IsNewOrChanged (Some before) None = ⊥
IsNewOrChanged (Some before) (Some after) = HasChanged before after

-- A row that isn't flagged is at its place, and wasn't flagged before. One that is flagged was so before, or is new or has
-- changed.
pub record KeepsUnchanged (rows : List Row) (flags : List Bool) (rows_after : List Row) (flags_after : List Bool) : Type 0 where
  pub more : length rows ≤ length rows_after
  pub kept : (place : ℕ) → slice_get flags_after place ≡ Some false → (slice_get flags place ≡ Some false) × (slice_get rows_after place ≡ slice_get rows place)
  pub flagged : (place : ℕ) → slice_get flags_after place ≡ Some true → (slice_get flags place ≡ Some true) ⊎ IsNewOrChanged (slice_get rows place) (slice_get rows_after place)

abbrev pub FlagsChanges : Taking → Taking → Type 0
FlagsChanges before after = KeepsUnchanged before.tracker before.changed.items after.tracker after.changed.items

-- the same, while the pass goes on and what is remembered of looks isn't flagged yet
abbrev pub FlagsGrown : Setup → Taking → Taking → Type 0
FlagsGrown setup before after = FlagsGrowth (rules_in setup) before.tracker before.changed.items after.tracker after.changed.items

-- no row is flagged
abbrev pub HasNoFlag : Taking → Type 0
HasNoFlag taking = (place : ℕ) → slice_get taking.changed.items place ≢ Some true

-- there is a flag for each row
abbrev pub HasFlagForEach : Taking → Type 0
HasFlagForEach taking = length taking.changed.items ≡ length taking.tracker
