-- The object of a place: the place without a point at its end.
use Rattle.std.proofs.Common.{◌≡◌, ◌≢◌, ℕ, ◌==◌, List, [], ◌∷◌, ◌++◌, Bool, true, false, cond, refl, ap}
use Rattle.std.proofs.lemmas.Bool.{eqb-true}
use Rattle.settings_text.specs.Types.Recombining.{object_place}

pub without_point : (front : List ℕ) → object_place (front ++ 46 ∷ []) ≡ front
without_point [] = refl
without_point (byte ∷ []) = refl
without_point (byte ∷ next ∷ front) = ap (λ (bytes : List ℕ). byte ∷ bytes) (without_point (next ∷ front))

pub with_no_point : (at : List ℕ) → ((front : List ℕ) → at ≢ front ++ 46 ∷ []) → object_place at ≡ at
with_no_point [] none = refl
with_no_point (byte ∷ []) none = by (byte == 46) refl
  where
    by : (b : Bool) → (byte == 46) ≡ b → cond b [] (byte ∷ []) ≡ byte ∷ []
    by true same = absurd (none [] (ap (λ (point : ℕ). point ∷ []) (eqb-true byte 46 same)))
    by false other = refl
with_no_point (byte ∷ next ∷ rest) none =
    ap (λ (bytes : List ℕ). byte ∷ bytes) (with_no_point (next ∷ rest) (λ front same. none (byte ∷ front) (ap (λ (bytes : List ℕ). byte ∷ bytes) same)))
