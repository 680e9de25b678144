-- How an escaped text splits at the first byte that needs an escape.
use Rattle.std.proofs.Common.{◌≡◌, ℕ, ℤ, pos, negsuc, not, decimal, zero, suc, ◌+◌, ◌<◌, ◌≤◌, true, false, List, [], ◌∷◌, ◌++◌, Some, None, refl, sym, ap, ◌∙◌, get_or, length, take, drop, position, arith}
use Rattle.std.proofs.lemmas.Bool.Decides.{nat_tests}
use Rattle.std.specs.List.{position_or_len}
use Rattle.std.proofs.lemmas.List.{append_assoc, append-nil, drop_more, drop_all}
use Rattle.std.proofs.lemmas.List.Sums.{fails_before_first}
use Rattle.std.proofs.Math.Seq.{take-length}
use Rattle.std.proofs.lemmas.List.Quantifiers.{position-Some}
use Rattle.std.specs.List.{list_all}
use Rattle.std.specs.Fmt.{signed_decimal}
use Rattle.otlp_json.proofs.Digits.{decimal_pass}
use Rattle.otlp_json.specs.Escaped.{needs_escape, escaped_byte, escaped}

pub plain_byte : (byte : ℕ) → needs_escape byte ≡ false → escaped_byte byte ≡ byte ∷ []
unfolding escaped_byte
plain_byte byte h = grind (arith, nat_tests)

pub plain_front : (text : List ℕ) (at : ℕ) → at ≤ length text → ((k : ℕ) → k < at → needs_escape (get_or text k 0) ≡ false)
    → escaped text ≡ take at text ++ escaped (drop at text)
plain_front [] zero fits plain = refl
plain_front [] (suc at) fits plain = absurd (omega arith)
plain_front (x ∷ xs) zero fits plain = refl
plain_front (x ∷ xs) (suc at) fits plain =
    let first : needs_escape x ≡ false = plain 0 (omega arith) in
    let rest : escaped xs ≡ take at xs ++ escaped (drop at xs) = plain_front xs at (omega arith) (λ k l. plain (suc k) (omega arith)) in
    rw (plain_byte x first) (ap (λ bytes. x ∷ bytes) rest)

-- the text splits at its first byte that needs an escape
pub record SplitsAt (text : List ℕ) (at : ℕ) : Type 0 where
  pub within : at < length text
  pub here : needs_escape (get_or text at 0) ≡ true
  pub split : escaped text ≡ take at text ++ (escaped_byte (get_or text at 0) ++ escaped (drop (at + 1) text))

pub splits_at : (text : List ℕ) (at : ℕ) → position needs_escape text ≡ Some at → SplitsAt text at
splits_at text at found =
    let first = position-Some needs_escape text at 0 found in
    let within : at < length text = first.0 in
    let front : escaped text ≡ take at text ++ escaped (drop at text) = plain_front text at (omega arith) first.2 in
    record {
      within = within;
      here = first.1;
      split = front ∙ ap (λ bytes. take at text ++ escaped bytes) (drop_more text at 0 within);
    }

none_passes : (text : List ℕ) → position needs_escape text ≡ None → length text ≤ position_or_len needs_escape text
none_passes text none = grind (arith, nat_tests)

pub plain_to_the_end : (text : List ℕ) → length text ≤ position_or_len needs_escape text → escaped text ≡ text
plain_to_the_end text past =
    let plain : (k : ℕ) → k < length text → needs_escape (get_or text k 0) ≡ false = λ k l. fails_before_first needs_escape text k 0 (omega arith) in
    let front = plain_front text (length text) (omega arith) plain in
    front ∙ rw (take-length text, drop_all (length text) text (omega arith)) (append-nil text)

pub no_escapes : (text : List ℕ) → position needs_escape text ≡ None → escaped text ≡ text
no_escapes text none = plain_to_the_end text (none_passes text none)

-- one round of the copy: a run of plain bytes, and the escape of the byte behind it
pub copied_round : (start now one two whole rest : List ℕ) (at : ℕ) → SplitsAt rest at → now ++ escaped rest ≡ start ++ whole
    → one ≡ now ++ take at rest → two ≡ one ++ escaped_byte (get_or rest at 0) → two ++ escaped (drop (at + 1) rest) ≡ start ++ whole
copied_round start now one two whole rest at splits so_far run escape =
    let later = escaped (drop (at + 1) rest) in
    let byte = escaped_byte (get_or rest at 0) in
    ap (λ bytes. bytes ++ later) (escape ∙ ap (λ bytes. bytes ++ byte) run)
    ∙ append_assoc (now ++ take at rest) byte later
    ∙ append_assoc now (take at rest) (byte ++ later)
    ∙ ap (λ bytes. now ++ bytes) (sym splits.split)
    ∙ so_far

-- where each byte stands for itself, all do
pub all_plain : (text : List ℕ) → list_all (λ byte. not (needs_escape byte)) text ≡ true → escaped text ≡ text
all_plain [] each = refl
all_plain (x ∷ xs) each = rw (plain_byte x (grind (arith, each))) (ap (λ bytes. x ∷ bytes) (all_plain xs (grind (arith, each))))

pub integer_plain : (z : ℤ) → escaped (signed_decimal z) ≡ signed_decimal z
unfolding escaped_byte
integer_plain (pos n) = all_plain (decimal n) (decimal_pass (λ byte. not (needs_escape byte)) (λ d small. grind (arith, nat_tests)) n)
integer_plain (negsuc n) = ap (λ bytes. 45 ∷ bytes) (all_plain (decimal (suc n)) (decimal_pass (λ byte. not (needs_escape byte)) (λ d small. grind (arith, nat_tests)) (suc n)))
