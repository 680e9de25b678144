-- Only one checkpoint has exactly the rows of a change changed.
use Rattle.std.proofs.Common.{◌≡◌, ℕ, ◌+◌, ◌-◌, ◌<◌, ◌⊎◌, List, [], ◌∷◌, length, Some, sym, ap, subst, ◌∙◌, arith, inl, inr}
use Rattle.std.specs.Prelude.{slice_get}
use Rattle.std.specs.Option.{unwrap_or}
use Rattle.std.specs.List.{All}
use Rattle.std.proofs.lemmas.Bool.{cases_lt, cases_eq}
use Rattle.std.proofs.lemmas.List.{same_lists}
use Rattle.std.proofs.lemmas.List.Elements.{All-head, All-tail}
use Rattle.std.proofs.lemmas.Option.{unwrap_or-slice_get}
use Rattle.file_tracker.specs.declared.row.Row.{Row}
use Rattle.checkpoint_store.specs.declared.Checkpoint.{Checkpoint}
use Rattle.checkpoint_store.specs.declared.Change.{Change}
use Rattle.checkpoint_store.specs.Rules.{IsCheckpoint}
use Rattle.checkpoint_store.specs.Fits.{HasId, Fits}
use Rattle.checkpoint_store.specs.Changed.{changed, HasChanged}
use Rattle.checkpoint_store.proofs.Changing.{changed_exact}

pub has_or_not : (rows : List Row) (id : ℕ) → HasId rows id ⊎ (HasId rows id → ⊥)
has_or_not [] id = inr (λ h. h)
has_or_not (row ∷ rows) id = elim (cases_eq row.id id) [
  | inl is ↦ inl (inl is)
  | inr other ↦ elim (has_or_not rows id) [
    | inl later ↦ inl (inr later)
    | inr never ↦ inr (λ h. elim h [ inl is ↦ other is | inr later ↦ never later ])
  ]
]

-- the row of this id
abbrev Stands : List Row → Row → Type 0
Stands rows row = slice_get rows (row.id - 1) ≡ Some row

same_named : (one other changes : List Row) (id : ℕ) → All (Stands one) changes → All (Stands other) changes → HasId changes id → slice_get one (id - 1) ≡ slice_get other (id - 1)
same_named one other [] id first second h = absurd h
same_named one other (row ∷ changes) id first second (inl is) =
    ap (λ (k : ℕ). slice_get one (k - 1)) (sym is) ∙ All-head (Stands one) row changes first ∙ sym (All-head (Stands other) row changes second) ∙ ap (λ (k : ℕ). slice_get other (k - 1)) is
same_named one other (row ∷ changes) id first second (inr later) =
    same_named one other changes id (All-tail (Stands one) row changes first) (All-tail (Stands other) row changes second) later

same_place : (version : ℕ) (before : Checkpoint) (change : Change) (one other : Checkpoint) → IsCheckpoint version before → Fits version before change → HasChanged before change one → HasChanged before change other
    → (place : ℕ) → place < length one.rows → slice_get one.rows place ≡ slice_get other.rows place
same_place version before change one other lawful fits first second place inside = elim (has_or_not change.rows (place + 1)) [
  | inl named ↦
      let is : place + 1 - 1 ≡ place = omega arith in
      subst (λ (k : ℕ). slice_get one.rows k ≡ slice_get other.rows k) is (same_named one.rows other.rows change.rows (place + 1) first.named second.named named)
  | inr not_there ↦ elim (cases_lt place (length before.rows)) [
    | inl held ↦ first.others place held not_there ∙ sym (second.others place held not_there)
    | inr new ↦ absurd (not_there (fits.new (place + 1) (omega (arith, new, lawful.count)) (omega (arith, inside, first.count))))
  ]
]

pub changed_alone : (version : ℕ) (before : Checkpoint) (change : Change) (after : Checkpoint) → IsCheckpoint version before → Fits version before change → HasChanged before change after → after ≡ changed before change
changed_alone version before change after lawful fits h =
    let exact : HasChanged before change (changed before change) = changed_exact version before change lawful fits in
    let made : List Row = (changed before change).rows in
    let rows : after.rows ≡ made =
    same_lists after.rows made (omega (arith, h.count, exact.count)) (λ place d inside.
    sym (unwrap_or-slice_get after.rows place d)
    ∙ ap (λ o. unwrap_or o d) (same_place version before change after (changed before change) lawful fits h exact place inside)
    ∙ unwrap_or-slice_get made place d) in
    λ i. record { eras = h.eras i; output_length = h.output_length i; observed = h.observed i; next_id = h.next_id i; rows = rows i }
