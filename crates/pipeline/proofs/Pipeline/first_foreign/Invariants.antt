use Rattle.std.proofs.Common.{◌≡◌, ℕ, ◌<◌, List, true, Some}
use Rattle.std.specs.Prelude.{slice_get}
use Rattle.file_tracker.specs.declared.row.Row.{Row}
use Rattle.pipeline.specs.AsRules.{rules_of}
use Rattle.pipeline.proofs.Pipeline.first_foreign.Given as goal

abbrev pub invariant-loop-row : goal.invariant-loop-row
invariant-loop-row l = (text : List ℕ) (k : ℕ) (row : Row) → k < l.row-index → slice_get l.rows k ≡ Some row → (rules_of text l.self).is_state row.state ≡ true
