-- Where a number's text ends: two texts that begin with a number's and go on with no digit tell the number.
use Rattle.std.proofs.Common.{◌≡◌, ℕ, ℤ, pos, negsuc, suc, ◌<◌, ◌^◌, Bool, true, false, ◌&&◌, List, [], ◌∷◌, ◌++◌, ◌∙◌, refl, sym, ap, arith, decimal, get_or, length, drop}
use Rattle.std.proofs.lemmas.Bool.{and_parts}
use Rattle.std.proofs.lemmas.Bool.Decides.{nat_tests}
use Rattle.std.proofs.lemmas.Fmt.{decimal_injective, decimal_nonempty}
use Rattle.std.proofs.lemmas.List.{append_assoc, append_cancel_left}
use Rattle.std.specs.Prelude.{nat_lt}
use Rattle.std.specs.List.{list_all}
use Rattle.std.specs.Fmt.{signed_decimal}
use Rattle.otlp_json.specs.IsOf64Bits.{IsInteger}
use Rattle.otlp_json.proofs.Digits.{decimal_pass}

pub regroup : (a b c d : List ℕ) → (a ++ b ++ c) ++ d ≡ a ++ (b ++ (c ++ d))
regroup a b c d = simp append_assoc

-- what stands between two equal fixed texts, and on
pub opened : (start mid other close x y : List ℕ) → (start ++ mid ++ close) ++ x ≡ (start ++ other ++ close) ++ y → mid ++ (close ++ x) ≡ other ++ (close ++ y)
opened start mid other close x y e =
    append_cancel_left start (mid ++ (close ++ x)) (other ++ (close ++ y)) (sym (regroup start mid close x) ∙ e ∙ regroup start other close y)

abbrev pub is_digit : ℕ → Bool
is_digit byte = nat_lt 47 byte && nat_lt byte 58

-- the text begins with no digit
pub record GoesOn (bytes : List ℕ) : Type 0 where
  pub first : ℕ
  pub later : List ℕ
  pub begins : bytes ≡ first ∷ later
  pub other : is_digit first ≡ false

pub goes_on : (first : ℕ) (later : List ℕ) → is_digit first ≡ false → GoesOn (first ∷ later)
goes_on first later other = record { first = first; later = later; begins = refl; other = other }

pub run_splits : (a b x y : List ℕ) → list_all is_digit a ≡ true → list_all is_digit b ≡ true → GoesOn x → GoesOn y → a ++ x ≡ b ++ y → (a ≡ b) × (x ≡ y)
run_splits [] [] x y p q g h e = (refl, e)
run_splits [] (b ∷ bs) x y p q g h e =
    let digit : is_digit b ≡ true = (and_parts (is_digit b) (list_all is_digit bs) q).0 in
    let same : g.first ≡ b = ap (λ l. get_or l 0 0) (sym g.begins ∙ e) in
    let clash : true ≡ false = sym digit ∙ ap is_digit (sym same) ∙ g.other in cc
run_splits (a ∷ more) [] x y p q g h e =
    let digit : is_digit a ≡ true = (and_parts (is_digit a) (list_all is_digit more) p).0 in
    let same : h.first ≡ a = ap (λ l. get_or l 0 0) (sym h.begins ∙ sym e) in
    let clash : true ≡ false = sym digit ∙ ap is_digit (sym same) ∙ h.other in cc
run_splits (a ∷ more) (b ∷ bs) x y p q g h e =
    let rest = run_splits more bs x y (and_parts (is_digit a) (list_all is_digit more) p).1 (and_parts (is_digit b) (list_all is_digit bs) q).1 g h (ap (drop 1) e) in
    let same : a ≡ b = ap (λ l. get_or l 0 0) e in
    (rw (same, rest.0) refl, rest.1)

pub digits_only : (n : ℕ) → list_all is_digit (decimal n) ≡ true
digits_only n = decimal_pass is_digit (λ d small. grind (arith, nat_tests)) n

pub number_splits : (m n : ℕ) (x y : List ℕ) → m < 2 ^ 64 → n < 2 ^ 64 → GoesOn x → GoesOn y → decimal m ++ x ≡ decimal n ++ y → (m ≡ n) × (x ≡ y)
number_splits m n x y p q g h e =
    let run = run_splits (decimal m) (decimal n) x y (digits_only m) (digits_only n) g h e in
    (decimal_injective m n p q run.0, run.1)

no_minus : (a x t : List ℕ) → list_all is_digit a ≡ true → 0 < length a → a ++ x ≡ 45 ∷ t → ⊥
no_minus [] x t p some e = absurd (omega arith)
no_minus (a ∷ more) x t p some e =
    let digit : is_digit a ≡ true = (and_parts (is_digit a) (list_all is_digit more) p).0 in
    let same : a ≡ 45 = ap (λ l. get_or l 0 0) e in
    let clash : true ≡ false = sym digit ∙ ap is_digit same in cc

pub integer_splits : (y z : ℤ) (x w : List ℕ) → IsInteger y → IsInteger z → GoesOn x → GoesOn w → signed_decimal y ++ x ≡ signed_decimal z ++ w → (y ≡ z) × (x ≡ w)
integer_splits (pos m) (pos n) x w p q g h e =
    let same = number_splits m n x w (omega arith) (omega arith) g h e in (ap pos same.0, same.1)
integer_splits (pos m) (negsuc n) x w p q g h e = absurd (no_minus (decimal m) x (decimal (suc n) ++ w) (digits_only m) (decimal_nonempty m (omega arith)) e)
integer_splits (negsuc m) (pos n) x w p q g h e = absurd (no_minus (decimal n) w (decimal (suc m) ++ x) (digits_only n) (decimal_nonempty n (omega arith)) (sym e))
integer_splits (negsuc m) (negsuc n) x w p q g h e =
    let same = number_splits (suc m) (suc n) x w (omega arith) (omega arith) g h (ap (drop 1) e) in
    let less : m ≡ n = omega (arith, same.0) in
    (ap negsuc less, same.1)
