use Rattle.std.proofs.Common.{◌++◌, ℕ, List, ap, ◌∙◌, length}
use Rattle.std.specs.Int.{w32, w64, to_be_bytes}
use Rattle.std.specs.List.{flat_map}
use Rattle.checkpoint_store.specs.Limits.{newest}
use Rattle.checkpoint_store.specs.Parts.{change_of_parts}
use Rattle.checkpoint_store.specs.Spelling.{row_spelling}
use Rattle.checkpoint_store.specs.declared.Change.{Change}
use Rattle.checkpoint_store.proofs.PutLemmas.{put_before}
use Rattle.checkpoint_store.proofs.put.encode_change.Goals as goal

pub returns : goal.returns
returns c =
    let k : Change = change_of_parts c.args.change.now in
    let r = c.put_flagged.result in
    let new : List ℕ = c.put_flagged.new.out.items in
    let s5 : List ℕ = flat_map (row_spelling newest) k.rows in
    let s4 : List ℕ = to_be_bytes w32 (length k.rows) in
    let s3 : List ℕ = to_be_bytes w32 k.next_id in
    let s2 : List ℕ = to_be_bytes w64 k.observed in
    put_before r c.args.out.now.items c.put_u64.new.out.items new (to_be_bytes w64 k.output_length) (s2 ++ (s3 ++ (s4 ++ s5))) c.in_ok-put_u64.ensures
    (put_before r c.put_u64.new.out.items c.put_u64-2.new.out.items new s2 (s3 ++ (s4 ++ s5)) c.in_ok-put_u64-2.ensures
    (put_before r c.put_u64-2.new.out.items c.put_u32.new.out.items new s3 (s4 ++ s5) c.in_ok-put_u32.ensures
    (put_before r c.put_u32.new.out.items c.put_u32-2.new.out.items new s4 s5
    (c.in_ok-put_u32-2.ensures ∙ ap (λ (n : ℕ). c.put_u32.new.out.items ++ to_be_bytes w32 n) c.count_flagged-count.ensures)
    c.put_flagged.ensures)))
