-- What rows and checkpoints keep, wherever they are spelled.
use Rattle.std.specs.Prelude.{◌≡◌, ℕ, ◌+◌, ◌-◌, ◌<◌, ◌≤◌, ◌^◌, List, [], ◌∷◌, length, ⊤}
use Rattle.std.specs.List.{All}
use Rattle.file_tracker.specs.declared.ends.End.{End}
use Rattle.file_tracker.specs.declared.row.Row.{Row}
use Rattle.file_tracker.specs.Limits.{row_limit}
use Rattle.state_codec.specs.Rules.{IsShortText}
use Rattle.checkpoint_store.specs.Limits.{newest, era_limit, front_limit, offset_limit, output_limit, time_limit}
use Rattle.checkpoint_store.specs.declared.Checkpoint.{Checkpoint}
use Rattle.checkpoint_store.specs.declared.beside.Beside.{Beside}
use Rattle.checkpoint_store.specs.declared.past.Past.{Past}

-- the first byte of a checkpoint
abbrev pub IsVersion : ℕ → Type 0
IsVersion version = (1 ≤ version) × (version ≤ newest)

-- ---- rows

-- what the spelling of a row says behind its state
abbrev pub past_of : Row → Past
past_of row = record { born = row.born; ends = row.ends; seen = row.seen; quiet = row.quiet }

-- what is read of a row that says nothing of it
abbrev pub no_past : Past
no_past = record { born = 1; ends = []; seen = 0; quiet = 0 }

-- before version 3 no row says anything of it
abbrev pub IsOfVersion : ℕ → Past → Type 0
IsOfVersion version past = version < 3 → past ≡ no_past

-- where the first part of a file begins, and how far its last one was read
abbrev pub first_point : Row → End
first_point row = record { offset = row.start; records = 0; lines = 0 }

abbrev pub last_point : Row → End
last_point row = record { offset = row.offset; records = row.records; lines = row.lines }

pub record NoneFalls (from to : End) : Type 0 where
  pub offset : from.offset ≤ to.offset
  pub records : from.records ≤ to.records
  pub lines : from.lines ≤ to.lines

-- no number falls from the first point over the ends to the last point
abbrev pub Rise : End → List End → End → Type 0
Rise from [] to = NoneFalls from to
Rise from (end ∷ ends) to = NoneFalls from end × Rise end ends to

-- each part of a file but the last has an end, and the parts were read under the eras from the one in which the file was
-- admitted up to the last one
pub record KeepsPast (beside : Beside) (from to : End) (past : Past) : Type 0 where
  pub of_version : IsOfVersion beside.version past
  pub eras : 3 ≤ beside.version → past.born + length past.ends ≡ beside.eras
  pub born : (1 ≤ past.born) × (past.born < 2 ^ 32)
  pub count : length past.ends < 2 ^ 32
  pub ends : Rise from past.ends to
  pub seen : past.seen < 2 ^ 64
  pub quiet : past.quiet < 2 ^ 32

pub record KeepsRules (beside : Beside) (row : Row) : Type 0 where
  pub id : row.id < 2 ^ 32
  pub path : IsShortText row.path
  pub front : (1 ≤ length row.front) × (length row.front ≤ front_limit)
  pub start : row.start ≤ row.offset
  pub offset : row.offset ≤ offset_limit
  pub records : row.records ≤ row.offset - row.start
  pub lines : row.lines ≤ beside.output_length
  pub state : length row.state < 2 ^ 32
  pub past : KeepsPast beside (first_point row) (last_point row) (past_of row)

-- rows with the ids `first`, `first` + 1, .. in order
abbrev pub KeepRules : Beside → ℕ → List Row → Type 0
KeepRules beside first [] = ⊤
KeepRules beside first (row ∷ rows) = (row.id ≡ first) × (KeepsRules beside row × KeepRules beside (first + 1) rows)

-- ---- checkpoints

-- before version 3 there was one
pub record AreEras (version : ℕ) (eras : List (List ℕ)) : Type 0 where
  pub of_version : version < 3 → length eras ≡ 1
  pub some : 1 ≤ length eras
  pub few : length eras ≤ era_limit
  pub short : All (λ text. length text < 2 ^ 32) eras

-- a time that is no earlier; before version 2 it stood still
pub record Follows (version before observed : ℕ) : Type 0 where
  pub of_version : version < 2 → observed ≡ before
  pub told : 2 ≤ version → (before ≤ observed) × (observed ≤ time_limit)

-- what the rows of a checkpoint stand beside
abbrev pub beside_of : ℕ → List (List ℕ) → ℕ → Beside
beside_of version eras output_length = record { version = version; eras = length eras; output_length = output_length }

pub record IsCheckpoint (version : ℕ) (c : Checkpoint) : Type 0 where
  pub eras : AreEras version c.eras
  pub output_length : c.output_length ≤ output_limit
  pub observed : Follows version 0 c.observed
  pub next_id : (1 ≤ c.next_id) × (c.next_id ≤ row_limit + 1)
  pub count : length c.rows + 1 ≡ c.next_id
  pub rows : KeepRules (beside_of version c.eras c.output_length) 1 c.rows
