use Rattle.std.proofs.Common.{◌≡◌, ◌+◌, take}
use Rattle.checkpoint_store.proofs.SizeLemmas.{rows_size, texts_size}
use Rattle.checkpoint_store.proofs.sizes.checkpoint_size.Given as goal

abbrev pub invariant-loop-text : goal.invariant-loop-text
invariant-loop-text l = l.size ≡ 29 + texts_size (take l.text-index l.checkpoint.eras.now)

abbrev pub invariant-loop-row : goal.invariant-loop-row
invariant-loop-row l = l.size ≡ 29 + texts_size l.checkpoint.eras.now + rows_size (take l.row-index l.checkpoint.rows.now)
