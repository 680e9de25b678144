-- Bytes copied into a block some at a time, each look to where it belongs.
use Rattle.std.proofs.Common.{◌≡◌, ℕ, ◌+◌, ◌-◌, ◌*◌, ◌≤◌, List, ◌++◌, sym, ap, ◌∙◌, length, take, arith}
use Rattle.std.proofs.lemmas.List.{append_assoc, append-nil, take_all, take-take, length-take-le}
use Rattle.std.proofs.Math.Seq.{take-add, take-append-add}
use Rattle.std.proofs.lemmas.Simd.{take_more_put_chunk, length-chunk, length-put_chunk}
use lib.Lanes.{chunk, put_chunk}

-- a look at n bytes from any place that the copy has reached
pub copied_on : (bytes block front : List ℕ) (made at from n : ℕ) → length front ≡ made → from ≤ at → from + n ≤ length bytes → made + (from + n) ≤ length block
    → take (made + at) block ≡ front ++ take at bytes
    → take (made + (from + n)) (put_chunk (made + from) block (chunk from n bytes)) ≡ front ++ take (from + n) bytes
copied_on bytes block front made at from n long reached within room so_far =
    let lanes = chunk from n bytes in
    let size : length lanes ≡ n = length-chunk from n bytes within in
    let kept : take (made + from) block ≡ front ++ take from bytes =
    sym (take-take (made + from) (made + at) block (omega arith))
    ∙ ap (take (made + from)) so_far
    ∙ ap (λ m. take (m + from) (front ++ take at bytes)) (sym long)
    ∙ take-append-add front (take at bytes) from
    ∙ ap (λ taken. front ++ taken) (take-take from at bytes reached) in
    take_more_put_chunk (made + from) block lanes (made + (from + n)) (omega arith) room
    ∙ ap (λ taken. taken ++ lanes) kept
    ∙ append_assoc front (take from bytes) lanes
    ∙ ap (λ taken. front ++ taken) (sym (take-add from n bytes))

-- where nothing is copied yet
pub copied_none : (bytes block : List ℕ) (made : ℕ) → take (made + 0) block ≡ take made block ++ take 0 bytes
copied_none bytes block made =
    let none : made + 0 ≡ made = omega arith in
    ap (λ n. take n block) none ∙ sym (append-nil (take made block))

-- the last look, which ends with the bytes
pub copied_last : (bytes block front : List ℕ) (made at n : ℕ) → length front ≡ made → n ≤ length bytes → length bytes - n ≤ at → made + length bytes ≤ length block
    → take (made + at) block ≡ front ++ take at bytes
    → take (made + length bytes) (put_chunk (made + (length bytes - n)) block (chunk (length bytes - n) n bytes)) ≡ front ++ bytes
copied_last bytes block front made at n long many reached room so_far =
    let from = length bytes - n in
    let end : from + n ≡ length bytes = omega arith in
    ap (λ m. take (made + m) (put_chunk (made + from) block (chunk from n bytes))) (sym end)
    ∙ copied_on bytes block front made at from n long reached (omega arith) (omega arith) so_far
    ∙ ap (λ m. front ++ take m bytes) end
    ∙ ap (λ taken. front ++ taken) (take_all (length bytes) bytes (omega arith))

-- the first bytes and the last, which are all
pub copied_ends : (bytes block : List ℕ) (made n : ℕ) → n ≤ length bytes → length bytes ≤ 2 * n → made + length bytes ≤ length block
    → take (made + length bytes) (put_chunk (made + (length bytes - n)) (put_chunk made block (chunk 0 n bytes)) (chunk (length bytes - n) n bytes)) ≡ take made block ++ bytes
copied_ends bytes block made n many few room =
    let front = take made block in
    let long : length front ≡ made = length-take-le made block (omega arith) in
    let first = put_chunk made block (chunk 0 n bytes) in
    let zero : made + 0 ≡ made = omega arith in
    let so_far : take (made + (0 + n)) first ≡ front ++ take (0 + n) bytes =
    ap (λ m. take (made + (0 + n)) (put_chunk m block (chunk 0 n bytes))) (sym zero)
    ∙ copied_on bytes block front made 0 0 n long (omega arith) (omega arith) (omega arith) (copied_none bytes block made) in
    copied_last bytes first front made (0 + n) n long many (omega arith) (omega (arith, length-put_chunk made block (chunk 0 n bytes))) so_far
