-- Lists of which one item is changed, or that get one more.
use Rattle.std.proofs.Common.{◌≡◌, ◌≢◌, ◌⊎◌, ℕ, ◌<◌, zero, suc, List, [], ◌∷◌, ◌++◌, length, refl, ap, inl, inr, arith}
use Rattle.std.proofs.lemmas.List.Elements.{Contains-append_cases, Contains-push_cases}
use Rattle.std.specs.Prelude.{Contains, None, Some, slice_get, slice_set}

module _ {A : Type 0} where
  pub set_twice : (xs : List A) (place : ℕ) (x y : A) → slice_set (slice_set xs place x) place y ≡ slice_set xs place y
  set_twice [] place x y = refl
  set_twice (first ∷ rest) zero x y = refl
  set_twice (first ∷ rest) (suc place) x y = ap (λ (l : List A). first ∷ l) (set_twice rest place x y)

  pub get_set : (xs : List A) (place : ℕ) (x y : A) → slice_get xs place ≡ Some x → slice_get (slice_set xs place y) place ≡ Some y
  get_set [] place x y at = absurd (let never : None ≡ Some x = at in cc)
  get_set (first ∷ rest) zero x y at = refl
  get_set (first ∷ rest) (suc place) x y at = get_set rest place x y at

  pub set_same : (xs : List A) (place : ℕ) (x : A) → slice_get xs place ≡ Some x → slice_set xs place x ≡ xs
  set_same [] place x at = refl
  set_same (first ∷ rest) zero x at = ap (λ (y : A). y ∷ rest) (let same : Some first ≡ Some x = at in cc)
  set_same (first ∷ rest) (suc place) x at = ap (λ (l : List A). first ∷ l) (set_same rest place x at)

  pub set_cases : (xs : List A) (place k : ℕ) (x y : A) → slice_get (slice_set xs place x) k ≡ Some y → ((k ≡ place) × (y ≡ x)) ⊎ ((k ≢ place) × (slice_get xs k ≡ Some y))
  set_cases [] place k x y at = absurd (let never : None ≡ Some y = at in cc)
  set_cases (first ∷ rest) zero zero x y at = inl (refl, (let same : Some x ≡ Some y = at in cc))
  set_cases (first ∷ rest) zero (suc k) x y at = inr ((λ e. absurd (omega (arith, e))), at)
  set_cases (first ∷ rest) (suc place) zero x y at = inr ((λ e. absurd (omega (arith, e))), at)
  set_cases (first ∷ rest) (suc place) (suc k) x y at =
      elim (set_cases rest place k x y at) [
        | inl same ↦ inl (ap suc same.0, same.1)
        | inr other ↦ inr ((λ e. other.0 (omega (arith, e))), other.1)
      ]

  pub set_others : (xs : List A) (place k : ℕ) (x : A) → k ≢ place → slice_get (slice_set xs place x) k ≡ slice_get xs k
  set_others [] place k x differs = refl
  set_others (first ∷ rest) zero zero x differs = absurd (differs refl)
  set_others (first ∷ rest) zero (suc k) x differs = refl
  set_others (first ∷ rest) (suc place) zero x differs = refl
  set_others (first ∷ rest) (suc place) (suc k) x differs = set_others rest place k x (λ e. differs (ap suc e))

  pub push_cases : (xs : List A) (k : ℕ) (x y : A) → slice_get (xs ++ x ∷ []) k ≡ Some y → ((k ≡ length xs) × (y ≡ x)) ⊎ (slice_get xs k ≡ Some y)
  push_cases [] zero x y at = inl (refl, (let same : Some x ≡ Some y = at in cc))
  push_cases [] (suc k) x y at = absurd (let never : None ≡ Some y = at in cc)
  push_cases (first ∷ rest) zero x y at = inr at
  push_cases (first ∷ rest) (suc k) x y at =
      elim (push_cases rest k x y at) [
        | inl same ↦ inl (ap suc same.0, same.1)
        | inr other ↦ inr other
      ]

  pub push_there : (xs : List A) (x : A) → slice_get (xs ++ x ∷ []) (length xs) ≡ Some x
  push_there [] x = refl
  push_there (first ∷ rest) x = push_there rest x

  pub push_others : (xs : List A) (k : ℕ) (x y : A) → slice_get xs k ≡ Some y → slice_get (xs ++ x ∷ []) k ≡ Some y
  push_others [] k x y at = absurd (let never : None ≡ Some y = at in cc)
  push_others (first ∷ rest) zero x y at = at
  push_others (first ∷ rest) (suc k) x y at = push_others rest k x y at

  pub push_before : (xs : List A) (k : ℕ) (x : A) → k < length xs → slice_get (xs ++ x ∷ []) k ≡ slice_get xs k
  push_before [] k x within = absurd (omega arith)
  push_before (first ∷ rest) zero x within = refl
  push_before (first ∷ rest) (suc k) x within = push_before rest k x (omega arith)

  pub contains_none : (x : A) → Contains [] x → ⊥
  contains_none x c = absurd (omega (arith, c.1))

  pub contains_cons : (y : A) (xs : List A) (x : A) → Contains (y ∷ xs) x → (y ≡ x) ⊎ Contains xs x
  contains_cons y xs x c = elim (Contains-append_cases (y ∷ []) xs x c) [
    | inl one ↦ elim (Contains-push_cases [] y x one) [ inl none ↦ absurd (contains_none x none) | inr same ↦ inl same ]
    | inr behind ↦ inr behind
  ]
