use Rattle.std.proofs.Common.{◌++◌, ℕ, List, ap, ◌∙◌}
use Rattle.std.specs.Int.{w32, w64, to_be_bytes}
use Rattle.file_tracker.specs.declared.row.Row.{Row}
use Rattle.state_codec.specs.Spelling.{bytes_spelling}
use Rattle.checkpoint_store.specs.Rules.{past_of}
use Rattle.checkpoint_store.specs.Spelling.{told_past}
use Rattle.checkpoint_store.proofs.PutLemmas.{put_before}
use Rattle.checkpoint_store.proofs.put.put_row.Goals as goal

pub returns : goal.returns
returns c =
    let row : Row = c.args.row.now in
    let r = c.put_past.result in
    let new : List ℕ = c.put_past.new.out.items in
    let s9 : List ℕ = told_past (past_of row) in
    let s8 : List ℕ = bytes_spelling row.state in
    let s7 : List ℕ = to_be_bytes w64 row.lines in
    let s6 : List ℕ = to_be_bytes w64 row.records in
    let s5 : List ℕ = to_be_bytes w64 row.offset in
    let s4 : List ℕ = to_be_bytes w64 row.start in
    let s3 : List ℕ = bytes_spelling row.front in
    let s2 : List ℕ = bytes_spelling row.path in
    put_before r c.args.out.now.items c.put_u32.new.out.items new (to_be_bytes w32 row.id) (s2 ++ (s3 ++ (s4 ++ (s5 ++ (s6 ++ (s7 ++ (s8 ++ s9))))))) c.in_ok-put_u32.ensures
    (put_before r c.put_u32.new.out.items c.put_text.new.out.items new s2 (s3 ++ (s4 ++ (s5 ++ (s6 ++ (s7 ++ (s8 ++ s9)))))) c.in_ok-put_text.ensures.ok
    (put_before r c.put_text.new.out.items c.put_bytes.new.out.items new s3 (s4 ++ (s5 ++ (s6 ++ (s7 ++ (s8 ++ s9)))))
    (c.in_ok-put_bytes.ensures.ok ∙ ap (λ (v : List ℕ). c.put_text.new.out.items ++ bytes_spelling v) c.as_slice.ensures)
    (put_before r c.put_bytes.new.out.items c.put_u64.new.out.items new s4 (s5 ++ (s6 ++ (s7 ++ (s8 ++ s9)))) c.in_ok-put_u64.ensures
    (put_before r c.put_u64.new.out.items c.put_u64-2.new.out.items new s5 (s6 ++ (s7 ++ (s8 ++ s9))) c.in_ok-put_u64-2.ensures
    (put_before r c.put_u64-2.new.out.items c.put_u64-3.new.out.items new s6 (s7 ++ (s8 ++ s9)) c.in_ok-put_u64-3.ensures
    (put_before r c.put_u64-3.new.out.items c.put_u64-4.new.out.items new s7 (s8 ++ s9) c.in_ok-put_u64-4.ensures
    (put_before r c.put_u64-4.new.out.items c.put_bytes-2.new.out.items new s8 s9
    (c.in_ok-put_bytes-2.ensures.ok ∙ ap (λ (v : List ℕ). c.put_u64-4.new.out.items ++ bytes_spelling v) c.as_slice-2.ensures)
    c.put_past.ensures)))))))
