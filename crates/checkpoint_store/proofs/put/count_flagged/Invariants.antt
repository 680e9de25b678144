use Rattle.std.proofs.Common.{◌≡◌, ◌+◌, ◌≤◌, length, drop}
use Rattle.checkpoint_store.specs.Parts.{flagged}
use Rattle.checkpoint_store.proofs.put.count_flagged.Given as goal

abbrev pub invariant-loop-place : goal.invariant-loop-place
invariant-loop-place l = (l.count ≤ l.place) × (l.count + length (flagged (drop l.place l.changed) (drop l.place l.rows)) ≡ length (flagged l.changed l.rows))
