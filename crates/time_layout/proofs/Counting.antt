-- Numbers of few digits, and names that a text begins with.
use Rattle.std.proofs.Common.{◌≡◌, ◌+◌, ◌-◌, ◌*◌, ◌^◌, ◌<◌, ◌≤◌, ◌∙◌, ap, ℕ, List, [], ◌∷◌, refl, length, fold, take, drop, get_or, false, arith}
use Rattle.std.proofs.Math.Nat.{pow-le-pow_right}
use Rattle.std.proofs.lemmas.List.{drop_all, take-append-drop}
use Rattle.std.proofs.lemmas.List.Sums.{common_prefix_len-drop_no, fold_more, fold-append}
use Rattle.std.specs.Char.{eq_ignore_ascii_case}
use Rattle.time_layout.specs.Atoms.{common_fold, value_of}

-- one more digit fits 32 bits
pub room : (value count : ℕ) → value < 10 ^ count → count ≤ 8 → value < 100_000_000
room value count small few =
    let most : 10 ^ count ≤ 10 ^ 8 = pow-le-pow_right (omega arith) few in omega arith

-- the name and the text part at this place
pub parts_here : (name text : List ℕ) (at : ℕ) → common_fold name text ≡ at + common_fold (drop at name) (drop at text)
    → at < length name → at < length text → eq_ignore_ascii_case (get_or name at 0) (get_or text at 0) ≡ false → at ≡ common_fold name text
parts_here name text at is in_name in_text other =
    let none = common_prefix_len-drop_no eq_ignore_ascii_case name text at 0 0 in_name in_text other in omega arith

nothing_common : (name : List ℕ) → common_fold name [] ≡ 0
nothing_common [] = refl
nothing_common (byte ∷ name) = refl

-- the text is over
pub over_here : (name text : List ℕ) (at : ℕ) → common_fold name text ≡ at + common_fold (drop at name) (drop at text)
    → length text ≤ at → at ≡ common_fold name text
over_here name text at is past =
    let ends : drop at text ≡ [] = drop_all at text past in
    let here : common_fold name text ≡ at + common_fold (drop at name) [] = is ∙ ap (λ rest. at + common_fold (drop at name) rest) ends in
    omega (arith, nothing_common (drop at name))

-- more digits spell no smaller number
grows : (n : ℕ) (digits : List ℕ) → n ≤ fold (λ m digit. m * 10 + (digit - 48)) n digits
grows n [] = omega arith
grows n (digit ∷ digits) = omega (arith, grows (n * 10 + (digit - 48)) digits)

-- a number is past a bound where the digits so far and the next are
pub past_here : (digits : List ℕ) (at bound : ℕ) → at < length digits
    → bound ≤ value_of (take at digits) * 10 + (get_or digits at 0 - 48) → bound ≤ value_of digits
past_here digits at bound within past =
    let front = fold_more (λ m digit. m * 10 + (digit - 48)) 0 digits at 0 within in
    let all = fold-append (λ m digit. m * 10 + (digit - 48)) 0 (take (at + 1) digits) (drop (at + 1) digits) in
    let same : value_of digits ≡ fold (λ m digit. m * 10 + (digit - 48)) (value_of (take (at + 1) digits)) (drop (at + 1) digits) =
    rw take-append-drop at all in
    omega (arith, front, same, grows (value_of (take (at + 1) digits)) (drop (at + 1) digits))
