use Rattle.std.proofs.Common.{◌≡◌, ℕ, List, Some, length, refl, subst, take, ap, arith}
use Rattle.std.proofs.lemmas.List.{take_all}
use Rattle.std.proofs.lemmas.Option.{slice_get_read}
use Rattle.std.specs.Prelude.{slice_get}
use Rattle.checkpoint_store.specs.Limits.{newest}
use Rattle.checkpoint_store.specs.Parts.{checkpoint_of_parts}
use Rattle.checkpoint_store.proofs.ShortLemmas.{checkpoint_short}
use Rattle.checkpoint_store.proofs.SizeLemmas.{newest_long, row_next, row_within, rows_size, text_next, text_within, whole_long}
use Rattle.checkpoint_store.proofs.sizes.checkpoint_size.Goals as goal

pub row_size-size-requires : goal.row_size-size-requires
row_size-size-requires c =
    let after = checkpoint_of_parts c.args.checkpoint.now in
    let rows = c.args.checkpoint.now.rows.now in
    let place = c.loop-row.row-index in
    let row = c.row-item.result in
    let at : slice_get rows place ≡ Some row = slice_get_read rows (length rows) place row refl c.loop-row-test.true c.row-item.is in
    omega (arith, newest_long row, row_within rows place row at, whole_long after, checkpoint_short newest after c.requires)

pub overflow_add-size-in-loop-row : goal.overflow_add-size-in-loop-row
overflow_add-size-in-loop-row c =
    let after = checkpoint_of_parts c.args.checkpoint.now in
    let rows = c.args.checkpoint.now.rows.now in
    let place = c.loop-row.row-index in
    let row = c.row-item.result in
    let at : slice_get rows place ≡ Some row = slice_get_read rows (length rows) place row refl c.loop-row-test.true c.row-item.is in
    omega (arith, c.loop-row.invariant, row_within rows place row at, whole_long after, checkpoint_short newest after c.requires)

pub loop-row-preserved : goal.loop-row-preserved
loop-row-preserved c =
    let rows = c.args.checkpoint.now.rows.now in
    let place = c.loop-row.row-index in
    let row = c.row-item.result in
    let at : slice_get rows place ≡ Some row = slice_get_read rows (length rows) place row refl c.loop-row-test.true c.row-item.is in
    omega (arith, c.loop-row.invariant, row_next rows place row at)

pub returns-clause-is : goal.returns-clause-is
returns-clause-is c =
    let rows = c.args.checkpoint.now.rows.now in
    let after = checkpoint_of_parts c.args.checkpoint.now in
    let all : take c.loop-row.row-index rows ≡ rows = take_all c.loop-row.row-index rows (omega arith) in
    let long : rows_size (take c.loop-row.row-index rows) ≡ rows_size rows = ap rows_size all in
    omega (arith, c.loop-row.invariant, long, whole_long after)

pub returns-clause-short : goal.returns-clause-short
returns-clause-short c =
    let rows = c.args.checkpoint.now.rows.now in
    let after = checkpoint_of_parts c.args.checkpoint.now in
    let all : take c.loop-row.row-index rows ≡ rows = take_all c.loop-row.row-index rows (omega arith) in
    let long : rows_size (take c.loop-row.row-index rows) ≡ rows_size rows = ap rows_size all in
    omega (arith, c.loop-row.invariant, long, whole_long after, checkpoint_short newest after c.requires)

pub overflow_add-size-in-loop-text : goal.overflow_add-size-in-loop-text
overflow_add-size-in-loop-text c =
    let after = checkpoint_of_parts c.args.checkpoint.now in
    let eras = c.args.checkpoint.now.eras.now in
    let texts = c.as_slice-text-items.result.now in
    let place = c.loop-text.text-index in
    let text = c.text-item.result in
    let there : slice_get texts place ≡ Some text = slice_get_read texts (length texts) place text refl c.loop-text-test.true c.text-item.is in
    let at : slice_get eras place ≡ Some text = subst (λ (all : List (List ℕ)). slice_get all place ≡ Some text) c.as_slice-text-items.ensures there in
    omega (arith, c.loop-text.invariant, ap length c.as_slice.ensures, text_within eras place text at, whole_long after, checkpoint_short newest after c.requires)

pub loop-text-preserved : goal.loop-text-preserved
loop-text-preserved c =
    let eras = c.args.checkpoint.now.eras.now in
    let texts = c.as_slice-text-items.result.now in
    let place = c.loop-text.text-index in
    let text = c.text-item.result in
    let there : slice_get texts place ≡ Some text = slice_get_read texts (length texts) place text refl c.loop-text-test.true c.text-item.is in
    let at : slice_get eras place ≡ Some text = subst (λ (all : List (List ℕ)). slice_get all place ≡ Some text) c.as_slice-text-items.ensures there in
    omega (arith, c.loop-text.invariant, ap length c.as_slice.ensures, text_next eras place text at)
