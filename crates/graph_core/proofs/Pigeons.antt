-- No more than n numbers below n are distinct.
use Rattle.std.proofs.Common.{◌≡◌, inl, inr, ℕ, zero, suc, ◌<◌, ◌≤◌, cond, List, [], ◌∷◌, ◌++◌, refl, sym, subst, ◌∙◌, arith, length}
use Rattle.std.specs.Prelude.{◌==◌}
use Rattle.std.proofs.lemmas.Bool.{cases_eq, cases_lt, cond-true, cond-false, eq-eqb, ne_eqb}
use Rattle.graph_core.specs.Wiring.{Has}
use Rattle.graph_core.proofs.Members.{Has-append_cases}

abbrev pub Distinct : List ℕ → Type 0
Distinct [] = Unit {0}
Distinct (x ∷ xs) = (Has xs x → ⊥) × Distinct xs

abbrev without : ℕ → List ℕ → List ℕ
without n [] = []
without n (x ∷ xs) = cond (x == n) xs (x ∷ without n xs)

without_same : (n x : ℕ) (xs : List ℕ) → x ≡ n → without n (x ∷ xs) ≡ xs
without_same n x xs e = cond-true (x == n) xs (x ∷ without n xs) (eq-eqb x n e)

without_other : (n x : ℕ) (xs : List ℕ) → (x ≡ n → ⊥) → without n (x ∷ xs) ≡ x ∷ without n xs
without_other n x xs ne = cond-false (x == n) xs (x ∷ without n xs) (ne_eqb x n ne)

from_without : (n : ℕ) (xs : List ℕ) (y : ℕ) → Has (without n xs) y → Has xs y
from_without n [] y h = absurd h
from_without n (x ∷ xs) y h =
    elim (cases_eq x n) [
      | inl e ↦ inr (rw (without_same n x xs e) at h)
      | inr ne ↦ (elim (rw (without_other n x xs ne) at h) [ inl f ↦ inl f | inr k ↦ inr (from_without n xs y k) ])
    ]

distinct_without : (n : ℕ) (xs : List ℕ) → Distinct xs → Distinct (without n xs)
distinct_without n [] d = tt
distinct_without n (x ∷ xs) d =
    elim (cases_eq x n) [
      | inl e ↦ rw (without_same n x xs e) d.1
      | inr ne ↦ rw (without_other n x xs ne) ((λ h. d.0 (from_without n xs x h)), distinct_without n xs d.1)
    ]

without_lacks : (n : ℕ) (xs : List ℕ) → Distinct xs → (y : ℕ) → Has (without n xs) y → y ≡ n → ⊥
without_lacks n [] d y h e = h
without_lacks n (x ∷ xs) d y h e =
    elim (cases_eq x n) [
      | inl f ↦ (let k : Has xs y = rw (without_same n x xs f) at h in d.0 (subst (λ (z : ℕ). Has xs z) (e ∙ sym f) k))
      | inr ne ↦ (elim (rw (without_other n x xs ne) at h) [ inl f ↦ ne (sym f ∙ e) | inr k ↦ without_lacks n xs d.1 y k e ])
    ]

length_without : (n : ℕ) (xs : List ℕ) → length xs ≤ suc (length (without n xs))
length_without n [] = omega arith
length_without n (x ∷ xs) =
    elim (cases_eq x n) [
      | inl e ↦ rw (without_same n x xs e) (omega arith)
      | inr ne ↦ rw (without_other n x xs ne) (let l = length_without n xs in omega arith)
    ]

pub pigeons : (n : ℕ) (xs : List ℕ) → Distinct xs → ((x : ℕ) → Has xs x → x < n) → length xs ≤ n
pigeons zero [] d below = omega arith
pigeons zero (x ∷ xs) d below = let l = below x (inl refl) in absurd (omega arith)
pigeons (suc n) xs d below =
    let l = pigeons n (without n xs) (distinct_without n xs d)
    (λ x h. let b = below x (from_without n xs x h) in let ne = without_lacks n xs d x h in below_last x n b ne) in
    let m = length_without n xs in
    omega arith
  where
    below_last : (x n : ℕ) → x < suc n → (x ≡ n → ⊥) → x < n
    below_last x n b ne = elim (cases_lt x n) [ inl l ↦ l | inr l ↦ absurd (ne (omega arith)) ]

pub Distinct-push : (xs : List ℕ) (x : ℕ) → Distinct xs → (Has xs x → ⊥) → Distinct (xs ++ x ∷ [])
Distinct-push [] x d free = ((λ h. h), tt)
Distinct-push (y ∷ xs) x d free = (
  (λ h. elim (Has-append_cases xs (x ∷ []) y h) [ inl k ↦ d.0 k | inr k ↦ (elim k [ inl e ↦ free (inl (sym e)) | inr m ↦ absurd m ]) ]),
  Distinct-push xs x d.1 (λ h. free (inr h)),
)
