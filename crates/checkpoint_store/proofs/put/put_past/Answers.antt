use Rattle.std.proofs.Common.{◌++◌, ℕ, List, ap, ◌∙◌, length}
use Rattle.std.specs.Int.{w32, w64, to_be_bytes}
use Rattle.std.specs.List.{flat_map}
use Rattle.file_tracker.specs.declared.ends.End.{End}
use Rattle.file_tracker.specs.declared.row.Row.{Row}
use Rattle.checkpoint_store.specs.Spelling.{end_spelling}
use Rattle.checkpoint_store.proofs.PutLemmas.{put_before, put_two_before}
use Rattle.checkpoint_store.proofs.put.put_past.Goals as goal

pub returns : goal.returns
returns c =
    let row : Row = c.args.row.now in
    let r = c.put_u32-2.result in
    let new : List ℕ = c.put_u32-2.new.out.items in
    let s5 : List ℕ = to_be_bytes w32 row.quiet in
    let s4 : List ℕ = to_be_bytes w64 row.seen in
    let s3 : List ℕ = flat_map end_spelling row.ends in
    let s2 : List ℕ = to_be_bytes w32 (length row.ends) in
    put_before r c.args.out.now.items c.put_u32.new.out.items new (to_be_bytes w32 row.born) (s2 ++ (s3 ++ (s4 ++ s5))) c.in_ok-put_u32.ensures
    (put_two_before r c.put_u32.new.out.items c.put_ends.new.out.items new s2 s3 (s4 ++ s5)
    (c.in_ok-put_ends.ensures ∙ ap (λ (v : List End). c.put_u32.new.out.items ++ (to_be_bytes w32 (length v) ++ flat_map end_spelling v)) c.as_slice.ensures)
    (put_before r c.put_ends.new.out.items c.put_u64.new.out.items new s4 s5 c.in_ok-put_u64.ensures c.put_u32-2.ensures))
