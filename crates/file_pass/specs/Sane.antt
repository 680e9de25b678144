-- What holds of the numbers of a pass, whatever is read.
use Rattle.std.specs.Prelude.{◌≡◌, ℕ, ◌+◌, ◌<◌, ◌≤◌, ◌^◌, List, length, Some, slice_get, IsTrue}
use Rattle.checkpoint_store.specs.Rules.{Rise, first_point, last_point}
use Rattle.file_tracker.specs.declared.row.Row.{Row}
use Rattle.file_tracker.specs.Limits.{row_limit}
use Rattle.state_codec.specs.Rules.{IsShortText}
use Rattle.standing.specs.Poll.{Poll}
use Rattle.file_pass.specs.Fed.{poll_of, rules_in}
use Rattle.file_pass.specs.declared.setup.Setup.{Setup}
use Rattle.file_pass.specs.declared.taking.Taking.{Taking}

-- the parts that ended under earlier settings, and what was remembered of the last look
pub record HasParts (era : ℕ) (row : Row) : Type 0 where
  pub born : 1 ≤ row.born
  pub parts : row.born + length row.ends ≡ era
  pub rises : Rise (first_point row) row.ends (last_point row)
  pub seen : row.seen < 2 ^ 64
  pub quiet : row.quiet < 2 ^ 32

-- the row at a place, beside an output that ends there
pub record IsSaneRow (poll : Poll) (end place : ℕ) (row : Row) : Type 0 where
  pub id : row.id ≡ place + 1
  pub path : IsShortText row.path
  pub front : (1 ≤ length row.front) × (length row.front ≤ 4096)
  pub start : row.start ≤ row.offset
  pub offset : row.offset ≤ 2 ^ 62
  pub records : row.start + row.records ≤ row.offset
  pub lines : row.lines ≤ end
  pub state : IsTrue (poll.rules.is_state row.state)
  pub short : length row.state < 2 ^ 32
  pub parts : HasParts poll.era row

-- the first states have a spelling that a row can have
pub record FreshFits (setup : Setup) : Type 0 where
  pub good : IsTrue ((rules_in setup).is_state (rules_in setup).fresh)
  pub short : length (rules_in setup).fresh < 2 ^ 32

abbrev pub AreSaneRows : Poll → ℕ → List Row → Type 0
AreSaneRows poll end rows = (place : ℕ) (row : Row) → slice_get rows place ≡ Some row → IsSaneRow poll end place row

pub record IsSaneTaking (setup : Setup) (taking : Taking) : Type 0 where
  pub rows : AreSaneRows (poll_of setup) taking.end taking.tracker
  pub few : length taking.tracker ≤ row_limit
  pub era : 1 ≤ setup.era
  pub flags : length taking.changed.items ≡ length taking.tracker
  pub end_within : taking.end ≤ setup.limit
  pub lines : taking.counts.lines ≤ taking.end
