use Rattle.std.specs.List.{AllAdjacentBelow}
use Rattle.case_table.specs.Rows.{IsBelow}
use Rattle.case_table.proofs.row.is_sorted.Given as goal

abbrev pub invariant-loop-i : goal.invariant-loop-i
invariant-loop-i l = AllAdjacentBelow IsBelow l.rows l.i
