use Rattle.std.proofs.Common.{◌++◌, ◌∷◌, [], ℕ, List, ap, ◌∙◌, length}
use Rattle.std.specs.Int.{w32, w64, to_be_bytes}
use Rattle.std.specs.List.{flat_map}
use Rattle.state_codec.specs.Spelling.{bytes_spelling}
use Rattle.checkpoint_store.specs.Limits.{newest}
use Rattle.checkpoint_store.specs.Parts.{checkpoint_of_parts}
use Rattle.checkpoint_store.specs.declared.Checkpoint.{Checkpoint}
use Rattle.checkpoint_store.specs.Spelling.{rows_spelling}
use Rattle.checkpoint_store.proofs.PutLemmas.{put_before, put_two_before}
use Rattle.checkpoint_store.proofs.put.encode.Goals as goal

pub returns : goal.returns
returns c =
    let k : Checkpoint = checkpoint_of_parts c.args.checkpoint.now in
    let r = c.put_rows.result in
    let new : List ℕ = c.put_rows.new.out.items in
    let s7 : List ℕ = rows_spelling newest k.rows in
    let s6 : List ℕ = to_be_bytes w32 k.next_id in
    let s5 : List ℕ = to_be_bytes w64 k.observed in
    let s4 : List ℕ = to_be_bytes w64 k.output_length in
    let s3 : List ℕ = flat_map bytes_spelling k.eras in
    let s2 : List ℕ = to_be_bytes w32 (length k.eras) in
    put_before r c.args.out.now.items c.extend_from_slice.new.self.items new (newest ∷ []) (s2 ++ (s3 ++ (s4 ++ (s5 ++ (s6 ++ s7))))) c.in_ok-extend_from_slice.ensures.items
    (put_two_before r c.extend_from_slice.new.self.items c.put_eras.new.out.items new s2 s3 (s4 ++ (s5 ++ (s6 ++ s7)))
    (c.in_ok-put_eras.ensures
    ∙ ap (λ (v : List (List ℕ)). c.extend_from_slice.new.self.items ++ (to_be_bytes w32 (length v) ++ flat_map bytes_spelling v)) c.as_slice.ensures)
    (put_before r c.put_eras.new.out.items c.put_u64.new.out.items new s4 (s5 ++ (s6 ++ s7)) c.in_ok-put_u64.ensures
    (put_before r c.put_u64.new.out.items c.put_u64-2.new.out.items new s5 (s6 ++ s7) c.in_ok-put_u64-2.ensures
    (put_before r c.put_u64-2.new.out.items c.put_u32.new.out.items new s6 s7 c.in_ok-put_u32.ensures
    c.put_rows.ensures))))
