use Rattle.std.proofs.Common.{◌≡◌}
use Rattle.std.specs.List.{fold}
use Rattle.checkpoint_store.specs.Changed.{with_row}
use Rattle.checkpoint_store.proofs.changes.with_rows.Given as goal

abbrev pub invariant-loop-row : goal.invariant-loop-row
invariant-loop-row l = fold with_row l.rows.items l.row-iterator.rest.items ≡ fold with_row l.fn.rows.items l.fn.changes.items
