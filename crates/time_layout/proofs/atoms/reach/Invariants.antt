use Rattle.std.proofs.Common.{◌≡◌, ◌≤◌, max, drop, length}
use Rattle.case_table.specs.Rows.{table_of}
use Rattle.time_layout.specs.Atoms.{reach}
use Rattle.time_layout.proofs.atoms.reach.Given as goal

abbrev pub invariant-loop-row : goal.invariant-loop-row
invariant-loop-row l = record { is : reach (table_of l.rows) l.text ≡ max l.most (reach (table_of (drop l.row-index l.rows)) l.text); within : l.most ≤ length l.text }
