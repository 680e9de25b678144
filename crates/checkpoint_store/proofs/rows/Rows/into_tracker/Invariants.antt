use Rattle.std.proofs.Common.{◌≡◌, ◌++◌}
use Rattle.checkpoint_store.proofs.rows.Rows.into_tracker.Given as goal

abbrev pub invariant-loop-row : goal.invariant-loop-row
invariant-loop-row l = l.tracker ++ l.row-iterator.rest.items ≡ l.fn.self
