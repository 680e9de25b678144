use Rattle.std.proofs.Common.{◌≡◌, ◌++◌, drop}
use Rattle.std.specs.List.{flat_map}
use Rattle.checkpoint_store.specs.Limits.{newest}
use Rattle.checkpoint_store.specs.Parts.{flagged}
use Rattle.checkpoint_store.specs.Spelling.{row_spelling}
use Rattle.checkpoint_store.proofs.put.put_flagged.Given as goal

abbrev pub invariant-loop-place : goal.invariant-loop-place
invariant-loop-place l =
    l.out.items ++ flat_map (row_spelling newest) (flagged (drop l.place l.changed) (drop l.place l.rows)) ≡ l.initial.out.items ++ flat_map (row_spelling newest) (flagged l.changed l.rows)
