-- The file that a row stands for.
use Rattle.std.specs.Prelude.{◌≡◌, ◌⊎◌, ℕ, ◌<◌, length, take, true, Some}
use Rattle.outside.specs.World.{History, bytes}
use Rattle.standing.specs.Eras.{Eras, era_at}
use Rattle.standing.specs.Moments.{LookAt, IsNamed}
use Rattle.standing.specs.Rows.{Row}
use Rattle.standing.specs.Rules.{Rules, Includes}

-- A look at the file saw exactly the row's front, which isn't empty; and a look found it under the row's path, which was to be read
-- in the era in which the row was made.
pub record IsOwner (eras : Eras) (history : History) (row : Row) (file : ℕ) : Type 0 where
  pub seen_at : History
  pub seen : LookAt history file seen_at
  pub saw : row.front ≡ take eras.first.front_size (bytes seen_at file)
  pub not_empty : 0 < length row.front
  pub named_at : History
  pub named : LookAt history file named_at
  pub under : IsNamed named_at row.path file
  pub rules : Rules
  pub admitted : era_at eras row.born ≡ Some rules
  pub included : Includes rules row.path

-- files may begin at their end, and this was the file's length at one of its looks
pub record BeginsAtEnd (rules : Rules) (history : History) (file start : ℕ) : Type 0 where
  pub from_end : rules.from_end ≡ true
  pub moment : History
  pub seen : LookAt history file moment
  pub length_then : start ≡ length (bytes moment file)

abbrev pub MayBegin : Rules → History → ℕ → ℕ → Type 0
MayBegin rules history file start = (start ≡ 0) ⊎ BeginsAtEnd rules history file start
