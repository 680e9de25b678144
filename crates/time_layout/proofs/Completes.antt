-- A text of a part is read as it.
use Rattle.std.proofs.Common.{◌≡◌, ◌∙◌, sym, ap, refl, ℕ, zero, suc, ◌+◌, ◌-◌, ◌≤◌, List, [], ◌∷◌, ◌++◌, length, take, drop, get_or, Bool, true, false, cond, nat_lt, ◌==◌, Ok, Err, ℤ, ◌⊎◌, inl, inr, arith, append_assoc}
use Rattle.std.proofs.lemmas.Bool.{lt-ltb, le-ltb, ne_eqb, false≢true}
use Rattle.std.proofs.Math.Seq.{take-append_seam, drop-append_seam, take-append-add, drop-drop, get_or-drop}
use Rattle.std.proofs.Math.ListN.{length-drop, length-append}
use Rattle.std.proofs.lemmas.List.Folds.{prefix_len-append}
use Rattle.std.proofs.lemmas.Bool.Decides.{nat_tests}
use Rattle.std.specs.Char.{is_ascii_digit}
use Rattle.std.specs.List.{prefix_len}
use Rattle.time_layout.specs.declared.fault.TimeFault.TheVariants.{Mismatch}
use Rattle.case_table.specs.Rows.{Named}
use Rattle.time_layout.specs.declared.parts.Colon.{Colon}
use Rattle.time_layout.specs.declared.parts.Colon.TheVariants.{Optional, Required, Missing}
use Rattle.time_layout.specs.Atoms.{Reading, value_of, stands, may_lie, number, fraction, name_at, unpadded, padded_day, minutes_behind, offset, signed, zone}
use Rattle.time_layout.specs.Texts.{AreDigits, BeginsNoDigit, IsNumber, IsFraction, IsName, IsUnpadded, IsPaddedDay, AreMinutes, IsOffset, IsSigned, IsZone}

-- at a place where a byte stands
pub stands_is : (byte at : ℕ) (text : List ℕ) (first : ℕ) (rest : List ℕ) → drop at text ≡ first ∷ rest → stands byte text at ≡ (first == byte)
stands_is byte at text first rest is =
    let long : length text - at ≡ suc (length rest) = sym (length-drop at text) ∙ ap length is in
    let here : get_or text at 0 ≡ first = ap (λ n. get_or text n 0) (omega arith) ∙ sym (get_or-drop at text 0 0) ∙ ap (λ rest. get_or rest 0 0) is in
    let within : nat_lt at (length text) ≡ true = lt-ltb at (length text) (omega arith) in
    rw (within, here) refl

-- and where none stands
pub stands_nowhere : (byte at : ℕ) (text : List ℕ) → drop at text ≡ [] → stands byte text at ≡ false
stands_nowhere byte at text is =
    let short : length text - at ≡ 0 = sym (length-drop at text) ∙ ap length is in grind (arith, nat_tests)

-- the place behind a part of the text
pub behind : (at : ℕ) (text own rest : List ℕ) → drop at text ≡ own ++ rest → drop (at + length own) text ≡ rest
behind at text own rest is = sym (drop-drop (length own) at text) ∙ ap (drop (length own)) is ∙ drop-append_seam own rest

pub behind_one : (at : ℕ) (text : List ℕ) (first : ℕ) (rest : List ℕ) → drop at text ≡ first ∷ rest → drop (at + 1) text ≡ rest
behind_one at text first rest is = sym (drop-drop 1 at text) ∙ ap (drop 1) is

pub front_whole : (own rest : List ℕ) (size : ℕ) → length own ≡ size → take size (own ++ rest) ≡ own
front_whole own rest size is = ap (λ n. take n (own ++ rest)) (sym is) ∙ take-append_seam own rest

number_of_digits : (digits low high at value : ℕ) → low ≤ value → value ≤ high
    → cond {A = Reading ℕ} (may_lie 0 low high value) (cond {A = Reading ℕ} (nat_lt digits digits) (Err (Mismatch (at + digits))) (Ok (value, at + digits))) (Err (Mismatch at))
    ≡ Ok (value, at + digits)
number_of_digits digits low high at value least greatest = grind (arith, nat_tests)

pub number_reads : (digits low high at value : ℕ) (text own rest : List ℕ) → drop at text ≡ own ++ rest → IsNumber digits low high own value
    → number digits low high text at ≡ Ok (value, at + length own)
unfolding number
number_reads digits low high at value text own rest is n =
    let whole : take digits (drop at text) ≡ own = ap (take digits) is ∙ front_whole own rest digits n.size in
    let count : prefix_len is_ascii_digit (take digits (drop at text)) ≡ digits = ap (prefix_len is_ascii_digit) whole ∙ n.all ∙ n.size in
    let value_is : value_of (take digits (drop at text)) ≡ value = ap value_of whole ∙ n.value_is in
    let none : digits - digits ≡ 0 = omega arith in
    rw (count, value_is, none, n.size) (number_of_digits digits low high at value n.least n.greatest)

no_longer : (test : Bool) (m n : ℕ) → cond test (1 + m) 0 ≡ 0 → cond test (1 + n) 0 ≡ 0
no_longer true m n none = absurd (omega arith)
no_longer false m n none = refl

pub none_in_front : (k : ℕ) (text : List ℕ) → BeginsNoDigit text → BeginsNoDigit (take k text)
none_in_front zero [] none = refl
none_in_front (suc k) [] none = refl
none_in_front zero (byte ∷ text) none = refl
none_in_front (suc k) (byte ∷ text) none = no_longer (is_ascii_digit byte) (prefix_len is_ascii_digit text) (prefix_len is_ascii_digit (take k text)) none

either_way : (test : Bool) (n : ℕ) → cond test (n + 0) n ≡ n
either_way true n = omega arith
either_way false n = refl

pub first_passes : (test : Bool) (m n : ℕ) → cond test (1 + m) 0 ≡ suc n → test ≡ true
first_passes true m n is = refl
first_passes false m n is = absurd (omega arith)

-- how many digits stand there
pub count_is : (own rest : List ℕ) (most : ℕ) → AreDigits own → length own ≤ most → (length own ≡ most) ⊎ BeginsNoDigit rest
    → prefix_len is_ascii_digit (take most (own ++ rest)) ≡ length own
count_is own rest most all few (inl whole) = ap (prefix_len is_ascii_digit) (front_whole own rest most whole) ∙ all
count_is own rest most all few (inr none) =
    let split : most ≡ length own + (most - length own) = omega arith in
    let front : take most (own ++ rest) ≡ own ++ take (most - length own) rest =
    ap (λ n. take n (own ++ rest)) split ∙ take-append-add own rest (most - length own) in
    rw (front, prefix_len-append, none_in_front (most - length own) rest none, all) (either_way _ (length own))

fraction_of_digits : (count at nanos : ℕ) → 1 ≤ count
    → cond {A = Reading ℕ} (count == 0) (Err (Mismatch at)) (Ok (nanos, at + count)) ≡ Ok (nanos, at + count)
fraction_of_digits count at nanos some = grind (arith, nat_tests)

pub fraction_reads : (most at nanos : ℕ) (text own rest : List ℕ) → drop at text ≡ own ++ rest → IsFraction most own rest nanos
    → fraction most text at ≡ Ok (nanos, at + length own)
unfolding fraction
fraction_reads most at nanos text own rest is f =
    let count : prefix_len is_ascii_digit (take most (drop at text)) ≡ length own =
    ap (λ bytes. prefix_len is_ascii_digit (take most bytes)) is ∙ count_is own rest most f.all f.few f.ends in
    let whole : take (length own) (drop at text) ≡ own = ap (take (length own)) is ∙ take-append_seam own rest in
    rw (count, whole, f.value_is) (fraction_of_digits (length own) at nanos f.some)

pub name_reads : (table : List Named) (size at code : ℕ) (text own rest : List ℕ) → drop at text ≡ own ++ rest → IsName table size own code
    → name_at table size text at ≡ Ok (code, at + length own)
unfolding name_at
name_reads table size at code text own rest is name =
    let whole : take size (drop at text) ≡ own = ap (take size) is ∙ front_whole own rest size name.size_is in
    let long : nat_lt (length (drop at text)) size ≡ false = le-ltb (length (drop at text)) size (omega (arith, ap length is, length-append own rest, name.size_is)) in
    rw (long, whole, name.named, name.size_is) refl

-- digits don't begin with another byte
digits_begin : (byte at : ℕ) (text own rest : List ℕ) → is_ascii_digit byte ≡ false → drop at text ≡ own ++ rest → AreDigits own → 1 ≤ length own
    → stands byte text at ≡ false
digits_begin byte at text [] rest other is all some = absurd (omega arith)
digits_begin byte at text (first ∷ own) rest other is all some =
    let digit : is_ascii_digit first ≡ true = first_passes (is_ascii_digit first) (prefix_len is_ascii_digit own) (length own) all in
    stands_is byte at text first (own ++ rest) is ∙ ne_eqb first byte (λ same. false≢true (sym other ∙ ap is_ascii_digit (sym same) ∙ digit))

pub unpadded_reads : (high at value : ℕ) (text own rest : List ℕ) → drop at text ≡ own ++ rest → IsUnpadded high own rest value
    → unpadded high text at ≡ Ok (value, at + length own)
unpadded_reads high at value text own rest is (inl two) =
    let count : prefix_len is_ascii_digit (take 2 (drop at text)) ≡ 2 =
    ap (λ bytes. prefix_len is_ascii_digit (take 2 bytes)) is ∙ ap (prefix_len is_ascii_digit) (front_whole own rest 2 two.size) ∙ two.all ∙ two.size in
    rw count (number_reads 2 1 high at value text own rest is two)
unpadded_reads high at value text own rest is (inr one) =
    let count : prefix_len is_ascii_digit (take 2 (drop at text)) ≡ 1 =
    ap (λ bytes. prefix_len is_ascii_digit (take 2 bytes)) is ∙ count_is own rest 2 one.0.all (omega (arith, one.0.size)) (inr one.1) ∙ one.0.size in
    rw count (number_reads 1 1 high at value text own rest is one.0)

pub padded_day_reads : (at day : ℕ) (text own rest : List ℕ) → drop at text ≡ own ++ rest → IsPaddedDay own rest day
    → padded_day text at ≡ Ok (day, at + length own)
padded_day_reads at day text own rest is (inl spaced) =
    let begins : drop at text ≡ 32 ∷ (spaced.0 ++ rest) = is ∙ ap (λ bytes. bytes ++ rest) spaced.1 in
    let after = number_reads 1 1 31 (at + 1) day text spaced.0 rest (behind_one at text 32 (spaced.0 ++ rest) begins) spaced.2 in
    let size : at + 1 + length spaced.0 ≡ at + length own = omega (arith, ap length spaced.1) in
    rw (stands_is 32 at text 32 (spaced.0 ++ rest) begins) (after ∙ ap (λ next. Ok (day, next)) size)
padded_day_reads at day text own rest is (inr (inl two)) =
    rw (digits_begin 32 at text own rest refl is two.all (omega (arith, two.size))) (unpadded_reads 31 at day text own rest is (inl two))
padded_day_reads at day text own rest is (inr (inr one)) =
    rw (digits_begin 32 at text own rest refl is one.0.all (omega (arith, one.0.size))) (unpadded_reads 31 at day text own rest is (inr one))

colon_reads : (at minutes : ℕ) (text digits rest : List ℕ) → drop at text ≡ 58 ∷ (digits ++ rest) → IsNumber 2 0 59 digits minutes
    → number 2 0 59 text (at + 1) ≡ Ok (minutes, at + suc (length digits))
colon_reads at minutes text digits rest is n =
    number_reads 2 0 59 (at + 1) minutes text digits rest (behind_one at text 58 (digits ++ rest) is) n ∙ ap (λ next. Ok (minutes, next)) (omega arith)

pub minutes_read : (colon : Colon) (at minutes : ℕ) (text own rest : List ℕ) → drop at text ≡ own ++ rest → AreMinutes colon own minutes
    → minutes_behind colon text at ≡ Ok (minutes, at + length own)
minutes_read Optional at minutes text own rest is (inl colon) =
    let begins : drop at text ≡ 58 ∷ (colon.0 ++ rest) = is ∙ ap (λ bytes. bytes ++ rest) colon.1 in
    rw (stands_is 58 at text 58 (colon.0 ++ rest) begins, colon.1) (colon_reads at minutes text colon.0 rest begins colon.2)
minutes_read Optional at minutes text own rest is (inr n) =
    rw (digits_begin 58 at text own rest refl is n.all (omega (arith, n.size))) (number_reads 2 0 59 at minutes text own rest is n)
minutes_read Required at minutes text own rest is colon =
    let begins : drop at text ≡ 58 ∷ (colon.0 ++ rest) = is ∙ ap (λ bytes. bytes ++ rest) colon.1 in
    rw (stands_is 58 at text 58 (colon.0 ++ rest) begins, colon.1) (colon_reads at minutes text colon.0 rest begins colon.2)
minutes_read Missing at minutes text own rest is n = number_reads 2 0 59 at minutes text own rest is n

pub offset_reads : (colon : Colon) (at seconds : ℕ) (text own rest : List ℕ) → drop at text ≡ own ++ rest → IsOffset colon own seconds
    → offset colon text at ≡ Ok (seconds, at + length own)
offset_reads colon at seconds text own rest is o =
    let begins : drop at text ≡ o.hours_text ++ (o.minutes_text ++ rest) =
    is ∙ ap (λ bytes. bytes ++ rest) o.is ∙ append_assoc o.hours_text o.minutes_text rest in
    let hours = number_reads 2 0 23 at o.hours text o.hours_text (o.minutes_text ++ rest) begins o.are_hours in
    let minutes = minutes_read colon (at + length o.hours_text) o.minutes text o.minutes_text rest
    (behind at text o.hours_text (o.minutes_text ++ rest) begins) o.are_minutes in
    let size : at + length o.hours_text + length o.minutes_text ≡ at + length own =
    omega (arith, ap length o.is, length-append o.hours_text o.minutes_text) in
    rw (hours, minutes, size, o.seconds_are) refl

behind_sign_reads : (colon : Colon) (sign at seconds : ℕ) (text own behind_sign rest : List ℕ) → drop at text ≡ own ++ rest → own ≡ sign ∷ behind_sign
    → IsOffset colon behind_sign seconds → offset colon text (at + 1) ≡ Ok (seconds, at + length own)
behind_sign_reads colon sign at seconds text own behind_sign rest is own_is o =
    let begins : drop at text ≡ sign ∷ (behind_sign ++ rest) = is ∙ ap (λ bytes. bytes ++ rest) own_is in
    offset_reads colon (at + 1) seconds text behind_sign rest (behind_one at text sign (behind_sign ++ rest) begins) o
    ∙ ap (λ next. Ok (seconds, next)) (omega (arith, ap length own_is))

pub signed_reads : (colon : Colon) (at : ℕ) (offset_is : ℤ) (text own rest : List ℕ) → drop at text ≡ own ++ rest → IsSigned colon own offset_is
    → signed colon text at ≡ Ok (offset_is, at + length own)
unfolding signed
signed_reads colon at offset_is text own rest is (inl east) =
    let begins : drop at text ≡ 43 ∷ (east.0 ++ rest) = is ∙ ap (λ bytes. bytes ++ rest) east.2 in
    rw (stands_is 43 at text 43 (east.0 ++ rest) begins, behind_sign_reads colon 43 at east.1 text own east.0 rest is east.2 east.4, east.3) refl
signed_reads colon at offset_is text own rest is (inr west) =
    let begins : drop at text ≡ 45 ∷ (west.0 ++ rest) = is ∙ ap (λ bytes. bytes ++ rest) west.2 in
    rw (
      stands_is 43 at text 45 (west.0 ++ rest) begins,
      stands_is 45 at text 45 (west.0 ++ rest) begins,
      behind_sign_reads colon 45 at west.1 text own west.0 rest is west.2 west.4,
      west.3,
    ) refl

pub zone_reads : (colon : Colon) (at : ℕ) (offset_is : ℤ) (text own rest : List ℕ) → drop at text ≡ own ++ rest → IsZone colon own offset_is
    → zone colon text at ≡ Ok (offset_is, at + length own)
unfolding zone
zone_reads colon at offset_is text own rest is (inl utc) =
    let begins : drop at text ≡ 90 ∷ rest = is ∙ ap (λ bytes. bytes ++ rest) utc.0 in
    rw (stands_is 90 at text 90 rest begins, utc.0, utc.1) refl
zone_reads colon at offset_is text own rest is (inr (inl east)) =
    let begins : drop at text ≡ 43 ∷ (east.0 ++ rest) = is ∙ ap (λ bytes. bytes ++ rest) east.2 in
    rw (stands_is 90 at text 43 (east.0 ++ rest) begins) (signed_reads colon at offset_is text own rest is (inl east))
zone_reads colon at offset_is text own rest is (inr (inr west)) =
    let begins : drop at text ≡ 45 ∷ (west.0 ++ rest) = is ∙ ap (λ bytes. bytes ++ rest) west.2 in
    rw (stands_is 90 at text 45 (west.0 ++ rest) begins) (signed_reads colon at offset_is text own rest is (inr west))
