use Rattle.std.proofs.Common.{◌≡◌, ◌+◌, drop}
use Rattle.checkpoint_store.specs.Parts.{flagged}
use Rattle.checkpoint_store.proofs.SizeLemmas.{rows_size}
use Rattle.checkpoint_store.proofs.sizes.flagged_size.Given as goal

abbrev pub invariant-loop-place : goal.invariant-loop-place
invariant-loop-place l = l.size + rows_size (flagged (drop l.place l.changed) (drop l.place l.rows)) ≡ rows_size (flagged l.changed l.rows)
