use Rattle.std.proofs.Common.{◌≡◌, drop, bytes_eq}
use Rattle.case_table.specs.Rows.{first_code, table_of}
use Rattle.case_table.proofs.row.find_bytes.Given as goal

abbrev pub invariant-loop-row : goal.invariant-loop-row
invariant-loop-row l = first_code (bytes_eq l.name) (table_of l.rows) ≡ first_code (bytes_eq l.name) (table_of (drop l.row-index l.rows))
