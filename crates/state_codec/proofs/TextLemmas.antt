-- What stands at the front of some bytes as a text, by whether the bytes that are there are UTF-8.
use Rattle.std.proofs.Common.{◌≡◌, ◌≢◌, ℕ, ◌-◌, ◌<◌, ◌≤◌, List, length, take, drop, Ok, Err, refl, ap, ◌∙◌, arith, eq-eqb}
use Rattle.std.proofs.lemmas.Bool.{ne_eqb, le-leb}
use Rattle.std.proofs.lemmas.List.{length-take, take_all}
use Rattle.std.proofs.lemmas.Str.{utf8_valid_len-IsUtf8}
use Rattle.std.specs.Int.{w32}
use Rattle.std.specs.Str.{IsUtf8}
use Rattle.std.specs.Str.Lossy.{utf8_valid_len}
use Rattle.state_codec.specs.Reading.{number_at, text_at, text_fault}

pub text_whole : (bytes rest : List ℕ) (n : ℕ) → number_at w32 bytes ≡ Ok (n, rest) → n ≤ length rest → IsUtf8 (take n rest) → text_at bytes ≡ Ok (take n rest, drop n rest)
unfolding text_at
text_whole bytes rest n number whole utf8 =
    let valid : utf8_valid_len (take n rest) ≡ n = utf8_valid_len-IsUtf8 (take n rest) utf8 ∙ length-take n rest ∙ omega arith in
    rw (number, eq-eqb (utf8_valid_len (take n rest)) n valid) refl

pub text_short : (bytes rest : List ℕ) (n : ℕ) → number_at w32 bytes ≡ Ok (n, rest) → length rest < n → IsUtf8 (take n rest) → text_at bytes ≡ Err 0
unfolding text_at
text_short bytes rest n number short utf8 =
    let all : take n rest ≡ rest = take_all n rest (omega arith) in
    let valid : utf8_valid_len (take n rest) ≡ length (take n rest) = utf8_valid_len-IsUtf8 (take n rest) utf8 in
    let other : utf8_valid_len (take n rest) ≢ n = λ e. omega (arith, ap (λ (xs : List ℕ). length xs) all, valid, e) in
    rw (number, ne_eqb (utf8_valid_len (take n rest)) n other, le-leb (length (take n rest)) (utf8_valid_len (take n rest)) (omega (arith, valid)))
    (ap Err (omega (arith, ap (λ (xs : List ℕ). length xs) all)))

pub text_wrong : (bytes rest : List ℕ) (n : ℕ) → number_at w32 bytes ≡ Ok (n, rest) → utf8_valid_len (take n rest) < length (take n rest)
    → text_at bytes ≡ Err (length rest - text_fault n (take n rest))
unfolding text_at
text_wrong bytes rest n number wrong =
    let other : utf8_valid_len (take n rest) ≢ n = λ e. omega (arith, length-take n rest, wrong, e) in
    rw (number, ne_eqb (utf8_valid_len (take n rest)) n other) refl
