use Rattle.std.proofs.Common.{◌≡◌, drop}
use Rattle.case_table.specs.Rows.{table_of}
use Rattle.case_table.specs.Tables.{severity_table}
use Rattle.time_severity.specs.Presets.{name_in}
use Rattle.time_severity.proofs.presets.short_name.Given as goal

abbrev pub invariant-loop-row : goal.invariant-loop-row
invariant-loop-row l = name_in severity_table l.number ≡ name_in (table_of (drop l.row-index l.row-items)) l.number
