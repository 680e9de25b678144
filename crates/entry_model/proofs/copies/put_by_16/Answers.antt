use Rattle.std.proofs.Common.{◌+◌, ◌∙◌, arith, take}
use Rattle.std.proofs.lemmas.List.{length-take-le}
use Rattle.std.proofs.lemmas.Simd.{length-put_chunk}
use lib.Lanes.{chunk}
use Rattle.entry_model.proofs.CopiedBytes.{copied_on, copied_last}
use Rattle.entry_model.proofs.copies.put_by_16.Goals as goal

pub loop-at-preserved : goal.loop-at-preserved
loop-at-preserved c =
    let bytes = c.args.bytes.now in
    let before = c.args.block.now in
    let made = c.args.made in
    let at = c.loop-at.at in
    let block = c.loop-at.block in
    let size = c.loop-at.invariant.size in
    record {
      size = length-put_chunk (made + at) block (chunk at 16 bytes) ∙ size;
      reached = omega arith;
      so_far = copied_on bytes block (take made before) made at at 16 (length-take-le made before (omega arith)) (omega arith) (omega arith) (omega arith) c.loop-at.invariant.so_far;
    }

pub returns-clause-bytes : goal.returns-clause-bytes
returns-clause-bytes c =
    let before = c.args.block.now in
    let made = c.args.made in
    let size = c.loop-at.invariant.size in
    copied_last c.args.bytes.now c.loop-at.block (take made before) made c.loop-at.at 16 (length-take-le made before (omega arith)) (omega arith) (omega arith) (omega arith) c.loop-at.invariant.so_far
