-- Rows in order, and the states that they keep.
use Rattle.std.proofs.Common.{◌≡◌, ℕ, ◌+◌, ◌<◌, List, true, false, Some, length, get_or, refl, sym, ◌∙◌, subst, arith, inl, inr}
use Rattle.std.proofs.lemmas.Bool.{cases_lt}
use Rattle.std.proofs.lemmas.Option.{same_Some, slice_get-get_or}
use Rattle.std.specs.Prelude.{slice_get}
use Rattle.pipeline.specs.Foreign.{IsLeastForeign}
use Rattle.standing.specs.Rows.{Row, AreInOrder, KeepStates}
use Rattle.standing.specs.Rules.{Rules}

pub least_foreign : (rules : Rules) (rows : List Row) (place : ℕ) (saved : Row) → AreInOrder rows
    → slice_get rows place ≡ Some saved → rules.is_state saved.state ≡ false
    → ((k : ℕ) (other : Row) → k < place → slice_get rows k ≡ Some other → rules.is_state other.state ≡ true)
    → IsLeastForeign rules rows saved.id
least_foreign rules rows place saved in_order there foreign fine_before = record {
  place = place;
  row = saved;
  there = there;
  id_is = refl;
  foreign = foreign;
  least = λ other_place other at other_foreign.
      elim (cases_lt other_place place) [
        | inl early ↦ (let fine = fine_before other_place other early at in absurd (cc (fine, other_foreign)))
        | inr late ↦ omega (arith, in_order place saved there, in_order other_place other at)
      ];
}

-- ---- states, row by row

-- the rows before a place keep states of the operators
abbrev pub FineBefore : Rules → List Row → ℕ → Type 0
FineBefore rules rows place = (k : ℕ) (row : Row) → k < place → slice_get rows k ≡ Some row → rules.is_state row.state ≡ true

pub fine_more : (rules : Rules) (rows : List Row) (place : ℕ) (saved : Row) → FineBefore rules rows place → slice_get rows place ≡ Some saved → rules.is_state saved.state ≡ true → FineBefore rules rows (place + 1)
fine_more rules rows place saved fine there good = λ k row early at. elim (cases_lt k place) [
  | inl before ↦ fine k row before at
  | inr late ↦ (let here : k ≡ place = omega arith in let same : slice_get rows place ≡ Some row = subst (λ n. slice_get rows n ≡ Some row) here at in subst (λ (r : Row). rules.is_state r.state ≡ true) (same_Some saved row (sym there ∙ same)) good)
]

pub all_fine : (rules : Rules) (rows : List Row) (place : ℕ) → length rows ≡ place → FineBefore rules rows place → KeepStates rules rows
all_fine rules rows place whole fine = λ k d within. fine k (get_or rows k d) (omega (arith, within, whole)) (slice_get-get_or rows k d within)
