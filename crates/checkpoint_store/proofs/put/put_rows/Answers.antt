use Rattle.std.proofs.Common.{◌++◌, arith}
use Rattle.std.specs.List.{flat_map}
use Rattle.checkpoint_store.specs.Limits.{newest}
use Rattle.checkpoint_store.specs.Spelling.{row_spelling}
use Rattle.checkpoint_store.proofs.PutLemmas.{one_put}
use Rattle.checkpoint_store.proofs.put.put_rows.Goals as goal

pub loop-row-preserved : goal.loop-row-preserved
loop-row-preserved c =
    one_put (row_spelling newest) c.args.rows.now c.loop-row.row-index c.row-item.result c.loop-row.out.items c.put_row.new.out.items
    (c.put_u32.new.out.items ++ flat_map (row_spelling newest) c.args.rows.now) (omega arith) c.row-item.is c.in_ok-put_row.ensures c.loop-row.invariant
