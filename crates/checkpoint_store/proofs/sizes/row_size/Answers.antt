use Rattle.std.proofs.Common.{◌≡◌, ◌+◌, ◌*◌, length, sym, ap, ◌∙◌, arith}
use Rattle.checkpoint_store.proofs.SizeLemmas.{newest_long}
use Rattle.checkpoint_store.proofs.sizes.row_size.Goals as goal

pub returns : goal.returns
returns c =
    let row = c.args.row.now in
    let size : 68 + (c.len.result + length c.as_slice.result.now + length c.as_slice-2.result.now + 24 * length c.as_slice-3.result.now) ≡ 68 + length row.path + length row.front + length row.state + 24 * length row.ends =
    omega (arith, c.len.ensures, ap length c.as_slice.ensures, ap length c.as_slice-2.ensures, ap length c.as_slice-3.ensures) in
    size ∙ sym (newest_long row)
