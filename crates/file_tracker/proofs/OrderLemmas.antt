-- How the order of the places changes: by an insert, by two neighbours that change places, and by a front that grows.
use Rattle.std.proofs.Common.{◌≡◌, ◌≢◌, ℕ, ◌+◌, ◌-◌, ◌<◌, ◌≤◌, List, length, refl, sym, ap, inl, inr, ◌⊎◌, ◌∙◌, arith, slice_index}
use Rattle.std.proofs.lemmas.Bool.{cases_lt, cases_eq}
use Rattle.std.proofs.lemmas.List.Edits.{swapped_from_swap, length-swap, length-insert, get_or-insert_below, get_or-insert_at, get_or-insert_above}
use Rattle.std.specs.List.{swap, insert}
use Rattle.file_tracker.specs.Order.{ArePlaces}
use Rattle.file_tracker.proofs.FreeLemmas.{apart_any}

-- ---- two neighbours change places

-- where an index of the changed order was before
pub record WasAt (before after : List ℕ) (i k m : ℕ) : Type 0 where
  pub inside : m < length before
  pub same : slice_index after k ≡ slice_index before m
  pub which : ((k ≡ i) × (m ≡ i + 1)) ⊎ ((k ≡ i + 1) × (m ≡ i)) ⊎ ((k ≢ i) × (k ≢ i + 1) × (m ≡ k))

pub was_at : (before after : List ℕ) (i : ℕ) → i + 1 < length before → after ≡ swap before i (i + 1) → (k : ℕ) → k < length before → (m : ℕ) × WasAt before after i k m
was_at before after i inside is k low =
    let swapped = swapped_from_swap before after i (i + 1) 0 (omega arith) inside is in
    elim (cases_eq k i) [
      | inl e ↦ (i + 1, record { inside = inside; same = rw e (swapped.0); which = inl (e, refl) })
      | inr first ↦
          elim (cases_eq k (i + 1)) [
            | inl e ↦ (i, record { inside = omega arith; same = rw e (swapped.1); which = inr (inl (e, refl)) })
            | inr second ↦ (k, record { inside = low; same = swapped.2 k first second; which = inr (inr (first, second, refl)) })
          ]
    ]

pub places_swapped : (n : ℕ) (before after : List ℕ) (i : ℕ) → i + 1 < length before → after ≡ swap before i (i + 1) → ArePlaces n before → ArePlaces n after
places_swapped n before after i inside is places =
    let size : length after ≡ length before = ap length is ∙ length-swap before i (i + 1) in
    record {
      size = size ∙ places.size;
      in_range = λ k h. let w = was_at before after i inside is k (omega arith) in rw w.1.same (places.in_range w.0 w.1.inside);
      apart = λ j k l h e.
          let v = was_at before after i inside is j (omega arith) in
          let w = was_at before after i inside is k (omega arith) in
          different v.0 w.0 j k l v.1 w.1 (sym v.1.same ∙ e ∙ w.1.same);
      covers = λ p h. let c = places.covers p h in now_at size c.0 p c.1 c.2;
    }
  where
    different : (m o j k : ℕ) → j < k → WasAt before after i j m → WasAt before after i k o → slice_index before m ≡ slice_index before o → ⊥
    different m o j k l v w e = apart_any n before places m o v.inside w.inside (λ same. grind (arith, v.which, w.which, same)) e

    now_at : length after ≡ length before → (k p : ℕ) → k < length before → slice_index before k ≡ p → (m : ℕ) × (m < length after) × (slice_index after m ≡ p)
    now_at size k p low e =
        let swapped = swapped_from_swap before after i (i + 1) 0 (omega arith) inside is in
        elim (cases_eq k i) [
          | inl same ↦ (i + 1, omega arith, swapped.1 ∙ ap (slice_index before) (sym same) ∙ e)
          | inr first ↦
              elim (cases_eq k (i + 1)) [
                | inl same ↦ (i, omega arith, swapped.0 ∙ ap (slice_index before) (sym same) ∙ e)
                | inr second ↦ (k, omega arith, swapped.2 k first second ∙ e)
              ]
        ]

-- ---- a place is put in

-- what stands at an index of the longer order
pub record StandsAt (before after : List ℕ) (at new k m : ℕ) : Type 0 where
  pub which : ((k < at) × (m ≡ k) × (slice_index after k ≡ slice_index before m) × (m < length before))
      ⊎ ((k ≡ at) × (slice_index after k ≡ new))
      ⊎ ((at < k) × (k ≡ m + 1) × (slice_index after k ≡ slice_index before m) × (m < length before))

pub stands_at : (before : List ℕ) (at new k : ℕ) → at ≤ length before → k < length before + 1 → (m : ℕ) × StandsAt before (insert before at new) at new k m
stands_at before at new k fits low =
    elim (cases_lt k at) [
      | inl less ↦ (k, record { which = inl (less, refl, get_or-insert_below before at new 0 k less fits, omega arith) })
      | inr most ↦
          elim (cases_eq k at) [
            | inl e ↦ (0, record { which = inr (inl (e, rw e (get_or-insert_at before at new 0 fits))) })
            | inr over ↦
                let same : k ≡ (k - 1) + 1 = omega arith in
                (k - 1, record { which = inr (inr (omega arith, same, ap (slice_index (insert before at new)) same ∙ get_or-insert_above before at new 0 (k - 1) (omega arith) fits, omega arith)) })
          ]
    ]

pub places_inserted : (n : ℕ) (before : List ℕ) (at : ℕ) → at ≤ length before → ArePlaces n before → ArePlaces (n + 1) (insert before at n)
places_inserted n before at fits places =
    let size : length (insert before at n) ≡ length before + 1 = length-insert before at n fits in
    record {
      size = omega (arith, size, places.size);
      in_range = λ k h. let w = stands_at before at n k fits (omega (arith, size)) in ranged k w.0 w.1;
      apart = λ j k l h e.
          let v = stands_at before at n j fits (omega (arith, size)) in
          let w = stands_at before at n k fits (omega (arith, size)) in
          different j k v.0 w.0 l v.1 w.1 e;
      covers = λ p h. elim (cases_eq p n) [
        | inl e ↦ (at, omega (arith, size), get_or-insert_at before at n 0 fits ∙ sym e)
        | inr old ↦ let c = places.covers p (omega arith) in now_at size c.0 p c.1 c.2
      ];
    }
  where
    ranged : (k m : ℕ) → StandsAt before (insert before at n) at n k m → slice_index (insert before at n) k < n + 1
    ranged k m w = elim w.which [
      | inl low ↦ rw low.2 (omega (arith, places.in_range m low.3))
      | inr (inl here) ↦ rw here.1 (omega arith)
      | inr (inr high) ↦ rw high.2 (omega (arith, places.in_range m high.3))
    ]

    different : (j k m o : ℕ) → j < k → StandsAt before (insert before at n) at n j m → StandsAt before (insert before at n) at n k o
        → slice_index (insert before at n) j ≡ slice_index (insert before at n) k → ⊥
    different j k m o l v w e = elim v.which [
      | inl low ↦ elim w.which [
        | inl other ↦ apart_any n before places m o low.3 other.3 (λ same. omega (arith, low.1, other.1, same)) (sym low.2 ∙ e ∙ other.2)
        | inr (inl here) ↦ omega (arith, places.in_range m low.3, sym low.2 ∙ e ∙ here.1)
        | inr (inr high) ↦ apart_any n before places m o low.3 high.3 (λ same. omega (arith, low.0, low.1, high.0, high.1, same)) (sym low.2 ∙ e ∙ high.2)
      ]
      | inr (inl here) ↦ elim w.which [
        | inl low ↦ omega (arith, low.0, here.0)
        | inr (inl other) ↦ omega (arith, here.0, other.0)
        | inr (inr high) ↦ omega (arith, places.in_range o high.3, sym here.1 ∙ e ∙ high.2)
      ]
      | inr (inr high) ↦ elim w.which [
        | inl low ↦ omega (arith, low.0, high.0)
        | inr (inl here) ↦ omega (arith, here.0, high.0)
        | inr (inr other) ↦ apart_any n before places m o high.3 other.3 (λ same. omega (arith, high.1, other.1, same)) (sym high.2 ∙ e ∙ other.2)
      ]
    ]

    now_at : length (insert before at n) ≡ length before + 1 → (k p : ℕ) → k < length before → slice_index before k ≡ p
        → (m : ℕ) × (m < length (insert before at n)) × (slice_index (insert before at n) m ≡ p)
    now_at size k p low e = elim (cases_lt k at) [
      | inl less ↦ (k, omega (arith, size), get_or-insert_below before at n 0 k less fits ∙ e)
      | inr most ↦ (k + 1, omega (arith, size), get_or-insert_above before at n 0 k most fits ∙ e)
    ]
