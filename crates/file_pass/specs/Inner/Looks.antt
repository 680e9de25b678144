-- What was remembered of the looks at files when a pass began, and which rows are flagged since it isn't any more.
use Rattle.std.specs.Prelude.{◌≡◌, ◌≢◌, ◌⊎◌, ℕ, ◌==◌, List, [], length, map, Bool, false, true, if◌then◌else◌, Some, slice_get}
use Rattle.file_tracker.specs.declared.row.Row.{Row}
use Rattle.idle_flush.specs.declared.idle.Idle.{Idle}
use Rattle.standing.specs.Rules.{Rules}

abbrev pub idle_of : Row → Idle
idle_of row = record { seen = row.seen; quiet = row.quiet }

-- what is remembered of each row's file, where anything is ever flushed
abbrev pub looks_in : Rules → List Row → List Idle
looks_in rules rows = if rules.flush_after == 0 then [] else map idle_of rows

-- another look than this one is remembered at this place
pub record IsLookedAt (looks : List Idle) (rows : List Row) (place : ℕ) : Type 0 where
  pub idle : Idle
  pub was : slice_get looks place ≡ Some idle
  pub row : Row
  pub at : slice_get rows place ≡ Some row
  pub differs : idle_of row ≢ idle

-- the flags of these rows are set too, and no other is
pub record FlagsLooks (looks : List Idle) (rows : List Row) (flags flags_after : List Bool) : Type 0 where
  pub long : length flags_after ≡ length flags
  pub kept : (place : ℕ) → slice_get flags_after place ≡ Some false → (slice_get flags place ≡ Some false) × (IsLookedAt looks rows place → ⊥)
  pub flagged : (place : ℕ) → slice_get flags_after place ≡ Some true → (slice_get flags place ≡ Some true) ⊎ IsLookedAt looks rows place
