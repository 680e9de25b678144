-- Which rows are flagged while a pass goes on: those that are new, or that have grown, whatever is remembered of looks.
use Rattle.std.specs.Prelude.{◌≡◌, ◌≢◌, ◌⊎◌, ℕ, ◌<◌, ◌≤◌, List, length, Bool, false, true, Option, None, Some, slice_get, ⊤}
use Rattle.file_tracker.specs.Places.{with_look}
use Rattle.file_tracker.specs.declared.row.Row.{Row}
use Rattle.standing.specs.Rules.{Rules}

-- A row's front gets no shorter, and its offset no less; and where no byte more was read, no group is opened.
pub record LosesNothing (rules : Rules) (before after : Row) : Type 0 where
  pub front : length before.front ≤ length after.front
  pub offset : before.offset ≤ after.offset
  pub held : (before.offset < after.offset) ⊎ ((after.state ≡ before.state) ⊎ (after.state ≡ rules.fresh))

-- the row that stood at a place, if there was one, is there and lost nothing
abbrev pub Stays : Rules → Option Row → Option Row → Type 0
Stays rules None after = ⊤
Stays rules (Some before) None = ⊥
Stays rules (Some before) (Some after) = LosesNothing rules before after

-- groups were open, and none is
pub record IsEmptied (rules : Rules) (before after : Row) : Type 0 where
  pub were_open : before.state ≢ rules.fresh
  pub closed : after.state ≡ rules.fresh

-- more of the file's front was seen, or the file was read further, or its groups were closed
abbrev pub HasGrown : Rules → Row → Row → Type 0
HasGrown rules before after = (length before.front < length after.front) ⊎ ((before.offset < after.offset) ⊎ IsEmptied rules before after)

-- the row that stands at a place is new, or has grown
abbrev pub IsNewOrGrown : Rules → Option Row → Option Row → Type 0
IsNewOrGrown rules None None = ⊥
IsNewOrGrown rules None (Some after) = ⊤
IsNewOrGrown rules (Some before) None = ⊥
IsNewOrGrown rules (Some before) (Some after) = HasGrown rules before after

-- the row at a place is as it was, but for what is remembered of looks at its file, and that too where nothing is flushed
abbrev pub IsSameButLook : Rules → Option Row → Option Row → Type 0
IsSameButLook rules None None = ⊤
IsSameButLook rules None (Some after) = ⊥
IsSameButLook rules (Some before) None = ⊥
IsSameButLook rules (Some before) (Some after) = (after ≡ with_look after.seen after.quiet before) × (rules.flush_after ≡ 0 → after ≡ before)

-- A row that isn't flagged is at its place, and wasn't flagged before. One that is flagged was so before, or is new or has
-- grown.
pub record FlagsGrowth (rules : Rules) (rows : List Row) (flags : List Bool) (rows_after : List Row) (flags_after : List Bool) : Type 0 where
  pub more : length rows ≤ length rows_after
  pub stays : (place : ℕ) → Stays rules (slice_get rows place) (slice_get rows_after place)
  pub kept : (place : ℕ) → slice_get flags_after place ≡ Some false → (slice_get flags place ≡ Some false) × IsSameButLook rules (slice_get rows place) (slice_get rows_after place)
  pub flagged : (place : ℕ) → slice_get flags_after place ≡ Some true → (slice_get flags place ≡ Some true) ⊎ IsNewOrGrown rules (slice_get rows place) (slice_get rows_after place)
