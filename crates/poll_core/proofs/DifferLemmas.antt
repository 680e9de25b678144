-- Two texts differ first at one place.
use Rattle.std.proofs.Common.{◌≡◌, ℕ, List, ap, arith, inl, inr}
use Rattle.std.proofs.lemmas.Bool.{cases_lt}
use Rattle.std.specs.Prelude.{slice_get}
use Rattle.poll_core.specs.Differs.{DiffersAt}

pub not_same : (one other : List ℕ) (at : ℕ) → DiffersAt one other at → one ≡ other → ⊥
not_same one other at differ same = differ.differs (ap (λ text. slice_get text at) same)

pub one_place : (one other : List ℕ) (at place : ℕ) → DiffersAt one other at → DiffersAt one other place → at ≡ place
one_place one other at place first second = elim (cases_lt at place) [
  | inl early ↦ absurd (first.differs (second.same_before at early))
  | inr late ↦ elim (cases_lt place at) [
    | inl early ↦ absurd (second.differs (first.same_before place early))
    | inr same ↦ omega arith
  ]
]
