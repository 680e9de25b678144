use Rattle.std.proofs.Common.{◌++◌, get_or, arith}
use Rattle.std.specs.List.{flat_map}
use Rattle.std.proofs.lemmas.List.{get_or_default}
use Rattle.file_tracker.specs.declared.ends.End.{End}
use Rattle.checkpoint_store.specs.Spelling.{end_spelling}
use Rattle.checkpoint_store.proofs.PutLemmas.{one_put}
use Rattle.checkpoint_store.proofs.put.put_ends.Goals as goal

pub loop-end-preserved : goal.loop-end-preserved
loop-end-preserved c =
    let none : End = record { offset = 0; records = 0; lines = 0 } in
    let end : End = get_or c.args.ends.now c.loop-end.end-index none in
    one_put end_spelling c.args.ends.now c.loop-end.end-index end c.loop-end.out.items c.put_end.new.out.items
    (c.put_u32.new.out.items ++ flat_map end_spelling c.args.ends.now) (omega arith) (get_or_default c.args.ends.now c.loop-end.end-index none end (omega arith)) c.in_ok-put_end.ensures c.loop-end.invariant
