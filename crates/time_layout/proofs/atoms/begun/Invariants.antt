use Rattle.std.proofs.Common.{◌≡◌, drop}
use Rattle.case_table.specs.Rows.{table_of}
use Rattle.time_layout.specs.Atoms.{begun}
use Rattle.time_layout.proofs.atoms.begun.Given as goal

abbrev pub invariant-loop-row : goal.invariant-loop-row
invariant-loop-row l = begun (table_of l.rows) l.text ≡ begun (table_of (drop l.row-index l.rows)) l.text
