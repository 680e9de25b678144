-- Which texts spell numbers.
use Rattle.std.proofs.Common.{◌≡◌, ◌∙◌, sym, ap, refl, subst, ℕ, ◌^◌, ◌<◌, ℤ, pos, negsuc, List, Bool, true, false, cond, ◌&&◌, inl, inr, bytes_eq, FitsSigned, None, Some, Result, Ok, Err, Decides}
use Rattle.std.specs.Fmt.{signed_decimal}
use Rattle.std.specs.Int.{w64}
use Rattle.std.specs.Int.Signed.{mag}
use Rattle.std.specs.Str.Parse.{ParsesSigned, IsNumeral, signed_digits_value, without_leading_sign}
use Rattle.std.proofs.lemmas.Bool.{cases_Bool, and_parts, and_from, both_ways, ltb-true, lt-ltb}
use Rattle.std.proofs.lemmas.Fmt.{parse-signed_decimal, signed_decimal_injective}
use Rattle.std.proofs.lemmas.Option.{cond_some}
use Rattle.std.proofs.lemmas.Slice.Eq.{bytes_eq-Decides}
use Rattle.time_severity.specs.Spelled.{is_int, number_spelled}

decides_int : (z : ℤ) → Decides (is_int z) (mag z < 2 ^ 63)
decides_int (pos n) = (ltb-true n (2 ^ 63), lt-ltb n (2 ^ 63))
decides_int (negsuc n) = (ltb-true n (2 ^ 63), lt-ltb n (2 ^ 63))

and_true : (b c : Bool) → c ≡ true → (b && c) ≡ b
and_true true c e = e
and_true false c e = refl

-- what `parse` gave is the number where the text is its spelling
pub spelled_is : (E : Type 0) (bytes : List ℕ) (number : ℤ) → ParsesSigned {E = E} w64 10 bytes (Ok number)
    → cond (bytes_eq (signed_decimal number) bytes) (Some number) None ≡ number_spelled bytes
spelled_is E bytes number parses =
    ap (λ (z : ℤ). cond (bytes_eq (signed_decimal z) bytes) (Some z) None) parses.1
    ∙ sym (ap (λ (b : Bool). cond b (Some (signed_digits_value 10 bytes)) None)
    (and_true (bytes_eq (signed_decimal (signed_digits_value 10 bytes)) bytes) _ ((decides_int (signed_digits_value 10 bytes)).1 parses.0.1.sfits)))

clash : (E A : Type 0) (z : ℤ) (fault : E) (result : Result ℤ E) → result ≡ Err fault → result ≡ Ok z → A
clash E A z fault result e h = absurd (cc)

-- where it gave none the text spells no number
pub none_spelled : (E : Type 0) (bytes : List ℕ) (fault : E) → ParsesSigned {E = E} w64 10 bytes (Err fault) → None ≡ number_spelled bytes
none_spelled E bytes fault parses =
    let z = signed_digits_value 10 bytes in
    elim (cases_Bool (bytes_eq (signed_decimal z) bytes && is_int z)) [
      | inl e ↦
          let parts = and_parts _ _ e in
          let small = (decides_int z).0 parts.1 in
          clash E (None ≡ number_spelled bytes) z fault (Err fault) refl (parse-signed_decimal w64 z bytes (Err fault) (record { sfits = small }) small (sym ((bytes_eq-Decides _ _).0 parts.0)) parses)
      | inr e ↦ sym (ap (λ (b : Bool). cond b (Some z) None) e)
    ]

ok_ok : (y z : ℤ) → ◌≡◌ {A = Result ℤ (Unit {0})} (Ok y) (Ok z) → y ≡ z
ok_ok y z e = cc

pub spelled : (bytes : List ℕ) (number : ℤ) → number_spelled bytes ≡ Some number → (bytes ≡ signed_decimal number) × FitsSigned w64 number
spelled bytes number e =
    let z = signed_digits_value 10 bytes in
    let given = cond_some (bytes_eq (signed_decimal z) bytes && is_int z) z number e in
    let parts = and_parts _ _ given.0 in
    (sym ((bytes_eq-Decides _ _).0 parts.0) ∙ ap signed_decimal given.1, subst (λ (n : ℤ). FitsSigned w64 n) given.1 (record { sfits = (decides_int z).0 parts.1 }))

-- the spelling of a number is read as that number, as by `parse`
pub spells : (bytes : List ℕ) (number : ℤ) → bytes ≡ signed_decimal number → FitsSigned w64 number → number_spelled bytes ≡ Some number
spells bytes number is fits =
    let z = signed_digits_value 10 bytes in
    elim (cases_Bool (bytes_eq (signed_decimal z) bytes && is_int z)) [
      | inl e ↦
          let parts = and_parts _ _ e in
          let same : z ≡ number = signed_decimal_injective z number ((decides_int z).0 parts.1) fits.sfits ((bytes_eq-Decides _ _).0 parts.0 ∙ is) in
          ap (λ (b : Bool). cond b (Some z) None) e ∙ ap Some same
      | inr e ↦
          let never : (IsNumeral 10 (without_leading_sign bytes) × FitsSigned w64 z) → ⊥ = λ read.
          let same = ok_ok z number (parse-signed_decimal {E = Unit {0}} w64 number bytes (Ok z) fits fits.sfits is (read, refl)) in
          both_ways _ e (and_from _ _ ((bytes_eq-Decides _ _).1 (ap signed_decimal same ∙ sym is)) ((decides_int z).1 read.1.sfits)) in
          clash (Unit {0}) (number_spelled bytes ≡ Some number) number tt (Err tt) refl (parse-signed_decimal {E = Unit {0}} w64 number bytes (Err tt) fits fits.sfits is never)
    ]
