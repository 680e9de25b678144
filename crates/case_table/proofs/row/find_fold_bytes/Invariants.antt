use Rattle.std.proofs.Common.{◌≡◌, drop}
use Rattle.std.specs.Str.{str_eq_ignore_ascii_case}
use Rattle.case_table.specs.Rows.{first_code, table_of}
use Rattle.case_table.proofs.row.find_fold_bytes.Given as goal

abbrev pub invariant-loop-row : goal.invariant-loop-row
invariant-loop-row l = first_code (str_eq_ignore_ascii_case l.name) (table_of l.rows) ≡ first_code (str_eq_ignore_ascii_case l.name) (table_of (drop l.row-index l.rows))
