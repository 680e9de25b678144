use Rattle.std.proofs.Common.{◌≡◌, ◌++◌, drop}
use Rattle.std.specs.List.{flat_map}
use Rattle.checkpoint_store.specs.Limits.{newest}
use Rattle.checkpoint_store.specs.Spelling.{row_spelling}
use Rattle.checkpoint_store.proofs.put.put_rows.Given as goal

abbrev pub invariant-loop-row : goal.invariant-loop-row
invariant-loop-row l = l.out.items ++ flat_map (row_spelling newest) (drop l.row-index l.rows) ≡ l.initial.out.items ++ flat_map (row_spelling newest) l.rows
