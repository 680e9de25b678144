-- Texts in which a byte doesn't stand, and numbers among them.
use Rattle.std.proofs.Common.{◌≢◌, ℕ, zero, suc, ◌<◌, ◌≤◌, ◌^◌, List, [], ◌∷◌, ◌++◌, length, get_or, subst, arith}
use Rattle.std.specs.Prelude.{decimal}
use Rattle.std.specs.Char.{digit_value}
use Rattle.std.specs.Str.Parse.{AllDigits}
use Rattle.std.proofs.lemmas.Fmt.{decimal_is_IsNumeral}

abbrev pub Avoids : ℕ → List ℕ → Type 0
Avoids byte [] = Unit {0}
Avoids byte (other ∷ bytes) = (other ≢ byte) × Avoids byte bytes

pub avoids_append : (byte : ℕ) (front rest : List ℕ) → Avoids byte front → Avoids byte rest → Avoids byte (front ++ rest)
avoids_append byte [] rest none none_behind = none_behind
avoids_append byte (other ∷ front) rest none none_behind = (none.0, avoids_append byte front rest none.1 none_behind)

digits_avoid : (byte : ℕ) (digits : List ℕ) → 10 ≤ digit_value byte → AllDigits 10 digits → Avoids byte digits
digits_avoid byte [] past all = tt
digits_avoid byte (digit ∷ digits) past all = (
  (λ same. let below : digit_value byte < 10 = subst (λ (c : ℕ). digit_value c < 10) same all.0 in omega (arith, below, past)),
  digits_avoid byte digits past all.1,
)

pub number_avoids : (byte number : ℕ) → number < 2 ^ 64 → 10 ≤ digit_value byte → Avoids byte (decimal number)
number_avoids byte number few past = digits_avoid byte (decimal number) past (decimal_is_IsNumeral number few).0.1

pub avoids_at : (byte : ℕ) (bytes : List ℕ) → Avoids byte bytes → (k : ℕ) → k < length bytes → get_or bytes k 0 ≢ byte
avoids_at byte [] none k inside = absurd (omega (arith, inside))
avoids_at byte (other ∷ bytes) none zero inside = none.0
avoids_at byte (other ∷ bytes) none (suc k) inside = avoids_at byte bytes none.1 k (omega (arith, inside))
