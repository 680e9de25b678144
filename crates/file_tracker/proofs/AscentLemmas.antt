-- The fronts stay in order: with a place put in, with one that moves behind lesser fronts, and with a front that grows.
use Rattle.std.proofs.Common.{◌≡◌, ◌≢◌, ℕ, ◌+◌, ◌-◌, ◌<◌, ◌≤◌, true, true≢false, List, [], length, sym, ap, inl, inr, ◌∙◌, arith, slice_index, set, get_or-set_same, get_or-set_other}
use Rattle.std.proofs.lemmas.Bool.{cases_lt, cases_eq}
use Rattle.std.proofs.lemmas.List.Edits.{swapped_from_swap, length-swap}
use Rattle.std.specs.List.{swap}
use Rattle.file_tracker.specs.Fronts.{begins, front_at, ArePrefixFree}
use Rattle.file_tracker.specs.Order.{IsAtMost, IsAbove, front_in, ArePlaces, Ascends, AscendsBefore}
use Rattle.file_tracker.proofs.FrontLemmas.{between, begun_at_most, at_most_over, at_most_or_above, above_is_over}
use Rattle.file_tracker.proofs.FreeLemmas.{apart_any}

-- ---- a front that has grown moves behind lesser ones

pub settled_none : (fronts : List (List ℕ)) (order : List ℕ) (place : ℕ) → AscendsBefore place 0 fronts order → AscendsBefore place 1 fronts order
settled_none fronts order place others j k l h at = others j k l h (λ e. absurd (omega (arith, at e)))

pub settled_all : (fronts : List (List ℕ)) (order : List ℕ) (place end : ℕ) → length order ≤ end → AscendsBefore place end fronts order → Ascends fronts order
settled_all fronts order place end over others j k l h = others j k l h (λ _. omega arith)

-- the place stands elsewhere
pub settled_past : (fronts : List (List ℕ)) (order : List ℕ) (place i : ℕ) → 0 < i → i < length order → slice_index order (i - 1) ≢ place
    → AscendsBefore place i fronts order → AscendsBefore place (i + 1) fronts order
settled_past fronts order place i some inside other others j k l h at = elim (cases_lt k i) [
  | inl less ↦ others j k l h (λ _. less)
  | inr most ↦
      elim (cases_eq (slice_index order j) place) [
        | inr apart ↦ others j k l h (λ e. absurd (apart e))
        | inl e ↦
            let same : k ≡ i = omega (arith, at e) in
            let before : j < i - 1 = elim (cases_lt j (i - 1)) [
              | inl less ↦ less
              | inr after ↦ let here : j ≡ i - 1 = omega arith in absurd (other (ap (slice_index order) (sym here) ∙ e))
            ] in
            rw same
            (at_most_over (front_in fronts order j) (front_in fronts order (i - 1)) (front_in fronts order i)
            (others j (i - 1) before (omega arith) (λ _. omega arith))
            (others (i - 1) i (omega arith) inside (λ here. absurd (other here))))
      ]
]

-- the place stands here, and its front is not above the next
pub settled_here : (fronts : List (List ℕ)) (order : List ℕ) (n place i : ℕ) → ArePlaces n order → 0 < i → i < length order → slice_index order (i - 1) ≡ place
    → IsAtMost (front_at fronts place) (front_in fronts order i) → AscendsBefore place i fronts order → AscendsBefore place (i + 1) fronts order
settled_here fronts order n place i places some inside here fits others j k l h at = elim (cases_lt k i) [
  | inl less ↦ others j k l h (λ _. less)
  | inr most ↦
      elim (cases_eq (slice_index order j) place) [
        | inr apart ↦ others j k l h (λ e. absurd (apart e))
        | inl e ↦
            let same : k ≡ i = omega (arith, at e) in
            rw (e, same) fits
      ]
]

-- the place stands here, its front is above the next, and the two change places
pub settled_swapped : (fronts : List (List ℕ)) (order after : List ℕ) (n place i : ℕ) → ArePlaces n order → ArePlaces n after → 0 < i → i < length order → slice_index order (i - 1) ≡ place
    → IsAbove (front_at fronts place) (front_in fronts order i) → after ≡ swap order (i - 1) i → AscendsBefore place i fronts order → AscendsBefore place (i + 1) fronts after
settled_swapped fronts order after n place i places changed some inside here over is others j k l h at =
    let swapped = swapped_from_swap order after (i - 1) i 0 (omega arith) inside is in
    let size : length after ≡ length order = ap length is ∙ length-swap order (i - 1) i in
    by_index (swapped.0) (swapped.1 ∙ here) swapped.2 size
  where
    elsewhere : j ≢ i - 1 → j ≢ i → ((m : ℕ) → (m ≡ i - 1 → ⊥) → (m ≡ i → ⊥) → slice_index after m ≡ slice_index order m) → length after ≡ length order → slice_index order j ≢ place
    elsewhere low moved rest size x = apart_any n order places j (i - 1) (omega (arith, size)) (omega arith) low (x ∙ sym here)

    by_index : slice_index after (i - 1) ≡ slice_index order i → slice_index after i ≡ place
        → ((m : ℕ) → (m ≡ i - 1 → ⊥) → (m ≡ i → ⊥) → slice_index after m ≡ slice_index order m) → length after ≡ length order
        → IsAtMost (front_in fronts after j) (front_in fronts after k)
    by_index first second rest size =
        let lesser : IsAtMost (front_in fronts order i) (front_at fronts place) = above_is_over (front_at fronts place) (front_in fronts order i) over in
        let next_is : slice_index order i ≢ place = λ e. places.apart (i - 1) i (omega arith) inside (here ∙ sym e) in
        elim (cases_eq j i) [
          | inl same ↦ absurd (omega (arith, at (ap (slice_index after) same ∙ second)))
          | inr moved ↦
              elim (cases_eq j (i - 1)) [
                | inl same ↦
                    elim (cases_eq k i) [
                      | inl e ↦ rw (same, e, first, second) lesser
                      | inr e ↦ rw (same, first, rest k (λ x. omega arith) e) (others i k (omega arith) (omega (arith, size)) (λ x. absurd (next_is x)))
                    ]
                | inr low ↦
                    elim (cases_eq k i) [
                      | inl e ↦ rw (e, second, rest j low moved)
                          (rw (← here) (others j (i - 1) (omega arith) (omega arith) (λ x. omega arith)))
                      | inr far ↦
                          elim (cases_eq k (i - 1)) [
                            | inl e ↦ rw (e, first, rest j low moved) (others j i (omega arith) inside (λ x. absurd (elsewhere low moved (λ m. rest m) size x)))
                            | inr apart ↦ rw (rest j low moved, rest k apart far) (others j k l (omega (arith, size)) (λ x. absurd (elsewhere low moved (λ m. rest m) size x)))
                          ]
                    ]
              ]
        ]

-- ---- a front that grows

-- in a prefix-free list the order stays
pub grown_ascends : (fronts : List (List ℕ)) (order : List ℕ) (p : ℕ) (grown : List ℕ) → ArePlaces (length fronts) order → Ascends fronts order → ArePrefixFree fronts
    → p < length fronts → begins (front_at fronts p) grown ≡ true → Ascends (set fronts p grown) order
grown_ascends fronts order p grown places ascends free inside grows j k l h =
    elim (cases_eq (slice_index order j) p) [
      | inl same ↦
          let other : slice_index order k ≢ p = λ e. places.apart j k l h (same ∙ sym e) in
          rw (same, get_or-set_same fronts p grown [] inside, get_or-set_other fronts p (slice_index order k) grown [] other)
          (elim (at_most_or_above grown (front_in fronts order k)) [
            | inl fits ↦ fits
            | inr over ↦ absurd (true≢false (sym (between (front_at fronts p) (front_in fronts order k) grown grows
                (rw (← same) (ascends j k l h)) (above_is_over grown (front_in fronts order k) over))
                ∙ free p (slice_index order k) inside (places.in_range k h) (λ e. other (sym e))))
          ])
      | inr apart ↦
          elim (cases_eq (slice_index order k) p) [
            | inl same ↦
                rw (same, get_or-set_same fronts p grown [] inside, get_or-set_other fronts p (slice_index order j) grown [] apart)
                (at_most_over (front_in fronts order j) (front_at fronts p) grown (rw (← same) (ascends j k l h)) (begun_at_most (front_at fronts p) grown grows))
            | inr other ↦
                rw (get_or-set_other fronts p (slice_index order j) grown [] apart, get_or-set_other fronts p (slice_index order k) grown [] other) (ascends j k l h)
          ]
    ]

-- in any list the others stay in order
pub grown_others : (fronts : List (List ℕ)) (order : List ℕ) (p : ℕ) (grown : List ℕ) → Ascends fronts order
    → p < length fronts → begins (front_at fronts p) grown ≡ true → AscendsBefore p 0 (set fronts p grown) order
grown_others fronts order p grown ascends inside grows j k l h at =
    elim (cases_eq (slice_index order j) p) [
      | inl same ↦ absurd (omega (arith, at same))
      | inr apart ↦
          elim (cases_eq (slice_index order k) p) [
            | inl same ↦
                rw (same, get_or-set_same fronts p grown [] inside, get_or-set_other fronts p (slice_index order j) grown [] apart)
                (at_most_over (front_in fronts order j) (front_at fronts p) grown (rw (← same) (ascends j k l h)) (begun_at_most (front_at fronts p) grown grows))
            | inr other ↦
                rw (get_or-set_other fronts p (slice_index order j) grown [] apart, get_or-set_other fronts p (slice_index order k) grown [] other) (ascends j k l h)
          ]
    ]
