-- One row of a list is changed, or one is added at its end.
use Rattle.std.proofs.Common.{◌≡◌, ◌≢◌, ◌⊎◌, ℕ, zero, suc, List, [], ◌∷◌, ◌++◌, length, refl, ap, inl, inr, arith}
use Rattle.std.specs.Prelude.{None, Some, slice_set}
use Rattle.standing.specs.Rows.{Row, IsRowAt}

-- the row at this place is this one, and all others are as they were
pub record ChangesAt (place : ℕ) (here : Row) (old new : List Row) : Type 0 where
  pub cases : (k : ℕ) (row : Row) → IsRowAt new k row → ((k ≡ place) × (row ≡ here)) ⊎ ((k ≢ place) × IsRowAt old k row)
  pub there : IsRowAt new place here
  pub others : (k : ℕ) (row : Row) → k ≢ place → IsRowAt old k row → IsRowAt new k row

set_cases : (rows : List Row) (place k : ℕ) (here row : Row) → IsRowAt (slice_set rows place here) k row → ((k ≡ place) × (row ≡ here)) ⊎ ((k ≢ place) × IsRowAt rows k row)
set_cases [] place k here row at = absurd (let never : None ≡ Some row = at in cc)
set_cases (first ∷ rest) zero zero here row at = inl (refl, (let same : Some here ≡ Some row = at in cc))
set_cases (first ∷ rest) zero (suc k) here row at = inr ((λ e. absurd (omega (arith, e))), at)
set_cases (first ∷ rest) (suc place) zero here row at = inr ((λ e. absurd (omega (arith, e))), at)
set_cases (first ∷ rest) (suc place) (suc k) here row at =
    elim (set_cases rest place k here row at) [
      | inl same ↦ inl (ap suc same.0, same.1)
      | inr other ↦ inr ((λ e. other.0 (omega (arith, e))), other.1)
    ]

set_there : (rows : List Row) (place : ℕ) (here row : Row) → IsRowAt rows place row → IsRowAt (slice_set rows place here) place here
set_there [] place here row at = absurd (let never : None ≡ Some row = at in cc)
set_there (first ∷ rest) zero here row at = refl
set_there (first ∷ rest) (suc place) here row at = set_there rest place here row at

set_others : (rows : List Row) (place k : ℕ) (here row : Row) → k ≢ place → IsRowAt rows k row → IsRowAt (slice_set rows place here) k row
set_others [] place k here row differs at = absurd (let never : None ≡ Some row = at in cc)
set_others (first ∷ rest) zero zero here row differs at = absurd (differs refl)
set_others (first ∷ rest) zero (suc k) here row differs at = at
set_others (first ∷ rest) (suc place) zero here row differs at = at
set_others (first ∷ rest) (suc place) (suc k) here row differs at = set_others rest place k here row (λ e. differs (ap suc e)) at

pub changes_by_set : (rows : List Row) (place : ℕ) (here row : Row) → IsRowAt rows place row → ChangesAt place here rows (slice_set rows place here)
changes_by_set rows place here row at = record {
  cases = λ k other there. set_cases rows place k here other there;
  there = set_there rows place here row at;
  others = λ k other differs there. set_others rows place k here other differs there;
}

push_cases : (rows : List Row) (k : ℕ) (here row : Row) → IsRowAt (rows ++ here ∷ []) k row → ((k ≡ length rows) × (row ≡ here)) ⊎ ((k ≢ length rows) × IsRowAt rows k row)
push_cases [] zero here row at = inl (refl, (let same : Some here ≡ Some row = at in cc))
push_cases [] (suc k) here row at = absurd (let never : None ≡ Some row = at in cc)
push_cases (first ∷ rest) zero here row at = inr ((λ e. absurd (omega (arith, e))), at)
push_cases (first ∷ rest) (suc k) here row at =
    elim (push_cases rest k here row at) [
      | inl same ↦ inl (ap suc same.0, same.1)
      | inr other ↦ inr ((λ e. other.0 (omega (arith, e))), other.1)
    ]

push_there : (rows : List Row) (here : Row) → IsRowAt (rows ++ here ∷ []) (length rows) here
push_there [] here = refl
push_there (first ∷ rest) here = push_there rest here

push_others : (rows : List Row) (k : ℕ) (here row : Row) → IsRowAt rows k row → IsRowAt (rows ++ here ∷ []) k row
push_others [] k here row at = absurd (let never : None ≡ Some row = at in cc)
push_others (first ∷ rest) zero here row at = at
push_others (first ∷ rest) (suc k) here row at = push_others rest k here row at

pub changes_by_push : (rows : List Row) (here : Row) → ChangesAt (length rows) here rows (rows ++ here ∷ [])
changes_by_push rows here = record {
  cases = λ k other there. push_cases rows k here other there;
  there = push_there rows here;
  others = λ k other differs there. push_others rows k here other there;
}
