-- How a pass begins, and whether it left something to write.
use Rattle.std.specs.Prelude.{◌≡◌, ◌≢◌, ℕ, All, List, length, false, None, Option}
use Rattle.checkpoint_journal.specs.declared.journal.Journal.{Journal}
use Rattle.file_pass.specs.declared.counts.Counts.{Counts}
use Rattle.file_pass.specs.declared.taking.Taking.{Taking}
use Rattle.file_tracker.specs.declared.row.Row.{Row}

abbrev pub no_counts : Counts
no_counts = record { files = 0; lines = 0; left = 0; gone = 0; failed = 0; compressed = 0; shrunk = 0; full = 0 }

-- These rows stand, beside an output that ends there, and nothing was taken yet.
pub record IsBegun (rows : List Row) (end : ℕ) (taking : Taking) : Type 0 where
  pub rows_are : taking.tracker ≡ rows
  pub end_is : taking.end ≡ end
  pub flags : length taking.changed.items ≡ length rows
  pub none_flagged : All (λ flag. flag ≡ false) taking.changed.items
  pub counts_are : taking.counts ≡ no_counts

-- A checkpoint stands, and what was taken changed nothing of it.
pub record IsQuiet (journal : Option Journal) (kept : ℕ) (taking : Taking) : Type 0 where
  pub stood : journal ≢ None
  pub end_is : taking.end ≡ kept
  pub none_flagged : All (λ flag. flag ≡ false) taking.changed.items
