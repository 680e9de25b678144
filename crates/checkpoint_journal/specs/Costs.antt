-- How many bytes are given to writes to the slots for the next checkpoint.
use Rattle.std.specs.Prelude.{ℕ, ◌+◌, ◌≤◌, List, length, sum_by, Option, Some, None, ⊤}
use Rattle.file_tracker.specs.declared.row.Row.{Row}
use Rattle.checkpoint_store.specs.Limits.{newest}
use Rattle.checkpoint_store.specs.Spelling.{row_spelling, checkpoint_spelling}
use Rattle.checkpoint_store.specs.declared.Checkpoint.{Checkpoint}
use Rattle.checkpoint_journal.specs.Due.{IsDue}
use Rattle.checkpoint_journal.specs.declared.journal.Journal.{Journal}

-- at most so many bytes more were given to writes to the slots, where the disk tells it
abbrev pub WrittenAtMost : ℕ → Option ℕ → Option ℕ → Type 0
WrittenAtMost most None None = ⊤
WrittenAtMost most None (Some _) = ⊥
WrittenAtMost most (Some _) None = ⊥
WrittenAtMost most (Some before) (Some after) = after ≤ before + most

abbrev pub cost_of_rows : List Row → ℕ
cost_of_rows rows = 64 + sum_by (λ row. 16 + length (row_spelling newest row)) rows

-- Where it was due, the whole checkpoint was written, and else the rows that changed.
pub record Costs (journal : Option Journal) (after : Checkpoint) (rows : List Row) (before spent : Option ℕ) : Type 0 where
  pub anew : IsDue journal after → WrittenAtMost (length (checkpoint_spelling newest after) + 18) before spent
  pub goes_on : (IsDue journal after → ⊥) → WrittenAtMost (cost_of_rows rows) before spent
