-- Which numbers digits can begin, and how they go on.
use Rattle.std.proofs.Common.{◌≡◌, ◌∙◌, sym, ap, refl, subst, ℕ, zero, suc, ◌+◌, ◌-◌, ◌*◌, ◌/◌, ◌%◌, ◌^◌, ◌<◌, ◌≤◌, List, [], ◌∷◌, ◌++◌, length, fold, take, Bool, true, false, cond, nat_lt, nat_le, ◌&&◌, ◌⊎◌, inl, inr, arith, leb, eqb, mul-le-mul_right}
use Rattle.std.proofs.Math.ListN.{length-append}
use Rattle.std.proofs.Math.Nat.{pow-suc, one-le-pow}
use Rattle.std.proofs.lemmas.Nat.{pow-add}
use Rattle.std.proofs.lemmas.List.Folds.{prefix_len-append}
use Rattle.std.proofs.lemmas.List.Sums.{fold_push, fold-append}
use Rattle.std.proofs.lemmas.Bool.{ltb-true, leb-true, cases_lt}
use Rattle.std.proofs.lemmas.Bool.Decides.{nat_tests}
use Rattle.std.specs.Char.{is_ascii_digit}
use Rattle.std.specs.List.{prefix_len}
use Rattle.time_layout.specs.Atoms.{value_of, may_lie}
use Rattle.time_layout.specs.Printed.{digits_text}
use Rattle.time_layout.specs.Texts.{AreDigits, IsNumber}
use Rattle.time_layout.proofs.Sounds.{both}

first_of : (test : Bool) (m n : ℕ) → cond {A = ℕ} test (1 + m) 0 ≡ suc n → (test ≡ true) × (m ≡ n)
first_of true m n is = (refl, omega arith)
first_of false m n is = absurd (omega arith)

-- so many digits spell no greater number
pub value_bound : (n : ℕ) (bytes : List ℕ) → AreDigits bytes → fold (λ m digit. m * 10 + (digit - 48)) n bytes < (n + 1) * 10 ^ length bytes
value_bound n [] all = omega arith
value_bound n (byte ∷ bytes) all =
    let parts = first_of (is_ascii_digit byte) (prefix_len is_ascii_digit bytes) (length bytes) all in
    let bounds = both (leb 48 byte) (leb byte 57) parts.0 in
    let small : byte ≤ 57 = leb-true byte 57 bounds.1 in
    let step : n * 10 + (byte - 48) + 1 ≤ (n + 1) * 10 = omega arith in
    let below = value_bound (n * 10 + (byte - 48)) bytes parts.1 in
    let more : (n * 10 + (byte - 48) + 1) * 10 ^ length bytes ≤ (n + 1) * 10 * 10 ^ length bytes = mul-le-mul_right (10 ^ length bytes) step in
    let power : (n + 1) * 10 * 10 ^ length bytes ≡ (n + 1) * 10 ^ suc (length bytes) = rw pow-suc (omega arith) in
    let value : ℕ = fold (λ m digit. m * 10 + (digit - 48)) (n * 10 + (byte - 48)) bytes in
    let all_below : value < (n + 1) * 10 * 10 ^ length bytes = omega arith in
    subst (λ bound. value < bound) power all_below

-- digits behind others
shifted : (n : ℕ) (bytes : List ℕ) → fold (λ m digit. m * 10 + (digit - 48)) n bytes ≡ n * 10 ^ length bytes + value_of bytes
shifted n [] = omega arith
shifted n (byte ∷ bytes) =
    let one = shifted (n * 10 + (byte - 48)) bytes in
    let other = shifted (0 * 10 + (byte - 48)) bytes in
    rw pow-suc (omega (arith, one, other))

-- a number lies where those do that begin with its first digits
between : (n k : ℕ) (own : List ℕ) → AreDigits own → k ≤ length own
    → (fold (λ m digit. m * 10 + (digit - 48)) n (take k own) * 10 ^ (length own - k) ≤ fold (λ m digit. m * 10 + (digit - 48)) n own)
    × (fold (λ m digit. m * 10 + (digit - 48)) n own < (fold (λ m digit. m * 10 + (digit - 48)) n (take k own) + 1) * 10 ^ (length own - k))
between n zero own all few =
    let size : length own - 0 ≡ length own = omega arith in
    rw size (omega (arith, shifted n own), value_bound n own all)
between n (suc k) [] all few = absurd (omega arith)
between n (suc k) (byte ∷ own) all few =
    let parts = first_of (is_ascii_digit byte) (prefix_len is_ascii_digit own) (length own) all in
    let size : suc (length own) - suc k ≡ length own - k = omega arith in
    rw size (between (n * 10 + (byte - 48)) k own parts.1 (omega arith))

in_bounds : (low high least past : ℕ) → low < past → least ≤ high → nat_lt low past && nat_le least high ≡ true
in_bounds low high least past below within = grind (arith, nat_tests)

-- the first digits of a number begin one
pub may_begin : (digits low high k : ℕ) (own : List ℕ) (value : ℕ) → IsNumber digits low high own value → k ≤ digits
    → may_lie (digits - k) low high (value_of (take k own)) ≡ true
may_begin digits low high k own value number few =
    let bounds = between 0 k own number.all (omega (arith, number.size)) in
    let size : length own - k ≡ digits - k = ap (λ n. n - k) number.size in
    rw (← size) (in_bounds low high (value_of (take k own) * 10 ^ (length own - k)) ((value_of (take k own) + 1) * 10 ^ (length own - k))
    (omega (arith, bounds.1, number.value_is, number.least)) (omega (arith, bounds.0, number.value_is, number.greatest)))

-- digits of which any number is within the bounds
pub wide_enough : (digits high : ℕ) (bytes : List ℕ) → AreDigits bytes → length bytes ≤ digits → 10 ^ digits ≤ high + 1
    → may_lie (digits - length bytes) 0 high (value_of bytes) ≡ true
wide_enough digits high bytes all few wide =
    let below : value_of bytes < 1 * 10 ^ length bytes = value_bound 0 bytes all in
    let some : value_of bytes + 1 ≤ 10 ^ length bytes = omega arith in
    let more : (value_of bytes + 1) * 10 ^ (digits - length bytes) ≤ 10 ^ length bytes * 10 ^ (digits - length bytes) = mul-le-mul_right (10 ^ (digits - length bytes)) some in
    let size : length bytes + (digits - length bytes) ≡ digits = omega arith in
    let power : 10 ^ length bytes * 10 ^ (digits - length bytes) ≡ 10 ^ digits = sym (pow-add 10 (length bytes) (digits - length bytes)) ∙ ap (λ n. 10 ^ n) size in
    let positive : 1 ≤ 10 ^ (digits - length bytes) = one-le-pow (digits - length bytes) 10 (omega arith) in
    in_bounds 0 high (value_of bytes * 10 ^ (digits - length bytes)) ((value_of bytes + 1) * 10 ^ (digits - length bytes)) (omega arith) (omega arith)

chosen : (low high least past : ℕ) → low < past → least ≤ high → low ≤ high → least < past → (low < least) ⊎ (least ≤ low)
    → (n : ℕ) × (low ≤ least + n) × (least + n ≤ high) × (least + n < past)
chosen low high least past below within order some (inl before) = (0, omega arith, omega arith, omega arith)
chosen low high least past below within order some (inr behind) = (low - least, omega arith, omega arith, omega arith)

-- so many digits of a number
pub length-digits_text : (width n : ℕ) → length (digits_text width n) ≡ width
length-digits_text zero n = refl
length-digits_text (suc width) n =
    omega (arith, length-append (digits_text width (n / 10)) ((48 + n % 10) ∷ []), length-digits_text width (n / 10))

digit : (n : ℕ) → is_ascii_digit (48 + n % 10) ≡ true
digit n = grind (arith, nat_tests)

one_more : (test : Bool) (n : ℕ) → test ≡ true → cond test (1 + 0) 0 ≡ 1
one_more test n is = rw is refl

same_test : (n m : ℕ) → cond (eqb n n) (n + 1) m ≡ n + 1
same_test n m = grind (arith, nat_tests)

pub are_digits : (width n : ℕ) → AreDigits (digits_text width n)
are_digits zero n = refl
are_digits (suc width) n =
    let front = are_digits width (n / 10) in
    rw (prefix_len-append, front, digit n, length-append) (same_test (length (digits_text width (n / 10))) _)

pub value_of-digits_text : (width n : ℕ) → n < 10 ^ width → value_of (digits_text width n) ≡ n
value_of-digits_text zero n small = omega arith
value_of-digits_text (suc width) n small =
    let front = value_of-digits_text width (n / 10) (omega (arith, pow-suc 10 width)) in
    let all = fold_push (λ m c. m * 10 + (c - 48)) 0 (digits_text width (n / 10)) (48 + n % 10) in
    omega (arith, front, all)

pub number_text : (width low high n : ℕ) → n < 10 ^ width → low ≤ n → n ≤ high → IsNumber width low high (digits_text width n) n
number_text width low high n small least greatest = record {
  all = are_digits width n;
  size = length-digits_text width n;
  value_is = value_of-digits_text width n small;
  least = least;
  greatest = greatest;
}

-- digits behind digits
pub both_digits : (front more : List ℕ) → AreDigits front → AreDigits more → AreDigits (front ++ more)
both_digits [] more all rest = rest
both_digits (byte ∷ front) more all rest =
    let parts = first_of (is_ascii_digit byte) (prefix_len is_ascii_digit front) (length front) all in
    rw parts.0 (omega (arith, both_digits front more parts.1 rest))

-- digits that begin a number go on as one
pub goes_on : (digits low high : ℕ) (front : List ℕ) → AreDigits front → length front ≤ digits → low ≤ high
    → may_lie (digits - length front) low high (value_of front) ≡ true
    → (more : List ℕ) × (value : ℕ) × IsNumber digits low high (front ++ more) value
goes_on digits low high front all few order may =
    let missing : ℕ = digits - length front in
    let power : ℕ = 10 ^ missing in
    let tests = both (nat_lt low ((value_of front + 1) * power)) (nat_le (value_of front * power) high) may in
    let positive : 1 ≤ 10 ^ missing = one-le-pow missing 10 (omega arith) in
    let n = chosen low high (value_of front * power) ((value_of front + 1) * power) (ltb-true low ((value_of front + 1) * power) tests.0)
    (leb-true (value_of front * power) high tests.1) order (omega arith) (cases_lt low (value_of front * power)) in
    let more : List ℕ = digits_text missing n.0 in
    let small : n.0 < 10 ^ missing = omega (arith, n.3) in
    let size : length more ≡ missing = length-digits_text missing n.0 in
    let value : value_of (front ++ more) ≡ value_of front * power + n.0 =
    fold-append (λ m digit. m * 10 + (digit - 48)) 0 front more ∙ shifted (value_of front) more
    ∙ ap (λ k. value_of front * 10 ^ k + value_of more) size ∙ ap (λ m. value_of front * power + m) (value_of-digits_text missing n.0 small) in (
      more,
      value_of front * power + n.0,
      record {
        all = both_digits front more all (are_digits missing n.0);
        size = omega (arith, length-append front more, size);
        value_is = value;
        least = n.1;
        greatest = n.2;
      },
    )
