-- What a block holds after a step, and what of the text is left.
use Rattle.std.proofs.Common.{◌≡◌, ℕ, ◌+◌, ◌<◌, ◌≤◌, false, List, ◌++◌, refl, sym, ap, ◌∙◌, get_or, length, take, drop, arith}
use Rattle.std.specs.List.{position_or_len}
use Rattle.std.proofs.lemmas.List.{append_assoc, at_drop_more, get_or-drop, drop-drop, take-take, length-take-le, length-drop}
use Rattle.std.proofs.Math.Seq.{take-append-add}
use Rattle.std.proofs.lemmas.Simd.{take_more_put_chunk, length-chunk, run_in_chunk_le, run_in_chunk_fails}
use lib.Lanes.{chunk, put_chunk}
use Rattle.otlp_json.specs.Escaped.{needs_escape, escaped_byte, escaped}
use Rattle.otlp_json.proofs.Escapes.{plain_front}

-- after one byte more
pub byte_done : (text before after : List ℕ) (at : ℕ) → at < length text → after ≡ before ++ escaped_byte (get_or text at 0)
    → after ++ escaped (drop (at + 1) text) ≡ before ++ escaped (drop at text)
byte_done text before after at within spelled =
    let later = escaped (drop (at + 1) text) in
    ap (λ bytes. bytes ++ later) spelled
    ∙ append_assoc before (escaped_byte (get_or text at 0)) later
    ∙ ap (λ bytes. before ++ bytes) (sym (at_drop_more escaped text at 0 within))

-- the bytes of a look, as far as they count
stored_run : (block lanes : List ℕ) (made run : ℕ) → run ≤ length lanes → made + length lanes ≤ length block
    → take (made + run) (put_chunk made block lanes) ≡ take made block ++ take run lanes
stored_run block lanes made run short room =
    let front = take made block in
    let long : length front ≡ made = length-take-le made block (omega arith) in
    let whole : take (made + length lanes) (put_chunk made block lanes) ≡ front ++ lanes = take_more_put_chunk made block lanes (made + length lanes) refl room in
    sym (take-take (made + run) (made + length lanes) (put_chunk made block lanes) (omega arith))
    ∙ ap (take (made + run)) whole
    ∙ ap (λ n. take (n + run) (front ++ lanes)) (sym long)
    ∙ take-append-add front lanes run

-- after a run of bytes that stand for themselves
pub run_done : (text block : List ℕ) (at made run : ℕ) → at + 16 ≤ length text → made + 16 ≤ length block
    → run ≡ position_or_len needs_escape (chunk at 16 text)
    → take (made + run) (put_chunk made block (chunk at 16 text)) ++ escaped (drop (at + run) text) ≡ take made block ++ escaped (drop at text)
run_done text block at made run within room counted =
    let lanes = chunk at 16 text in
    let rest = drop at text in
    let long : length lanes ≡ 16 = length-chunk at 16 text within in
    let short : run ≤ 16 = run_in_chunk_le needs_escape text at 16 run 0 within counted in
    let plain : (k : ℕ) → k < run → needs_escape (get_or rest k 0) ≡ false =
    λ k l. ap needs_escape (get_or-drop at text k 0) ∙ run_in_chunk_fails needs_escape text at 16 run 0 within counted (at + k) (omega arith) (omega arith) in
    let fits : run ≤ length rest = omega (arith, length-drop at text) in
    let front : escaped rest ≡ take run rest ++ escaped (drop (at + run) text) = plain_front rest run fits plain ∙ ap (λ bytes. take run rest ++ escaped bytes) (drop-drop run at text) in
    ap (λ bytes. bytes ++ escaped (drop (at + run) text)) (stored_run block lanes made run (omega arith) (omega arith) ∙ ap (λ bytes. take made block ++ bytes) (take-take run 16 rest short))
    ∙ append_assoc (take made block) (take run rest) (escaped (drop (at + run) text))
    ∙ ap (λ bytes. take made block ++ bytes) (sym front)
