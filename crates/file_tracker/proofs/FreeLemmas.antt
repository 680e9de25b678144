-- When no front is how another begins.
use Rattle.std.proofs.Common.{◌≡◌, ◌≢◌, ℕ, ◌+◌, ◌-◌, ◌<◌, Bool, true, false, true≢false, List, [], length, refl, sym, ap, inl, inr, ◌∙◌, arith, if◌then◌else◌, slice_index, set, get_or-set_same, get_or-set_other}
use Rattle.std.proofs.lemmas.Bool.{cases_lt, cases_eq}
use Rattle.std.proofs.lemmas.List.{length-set}
use Rattle.file_tracker.specs.Fronts.{begins, front_at, ArePrefixFree}
use Rattle.file_tracker.specs.Order.{IsAtMost, front_in, ArePlaces, Ascends, StandsBetween}
use Rattle.file_tracker.proofs.FrontLemmas.{between, begun_at_most, begins_itself, begins_through, one_begins, at_most_itself, at_most_over}

-- a test that would contradict does not pass
pub fails : (b : Bool) → (b ≡ true → ⊥) → b ≡ false
fails true never = absurd (never refl)
fails false never = refl

-- what stands in the branch that was taken
pub tested : (t b r : Bool) → t ≡ true → r ≡ (if t then b else false) → b ≡ r
tested true b r taken is = sym is
tested false b r taken is = absurd (true≢false (sym taken))

-- two different places have different indices
pub apart_any : (n : ℕ) (order : List ℕ) → ArePlaces n order → (j k : ℕ) → j < length order → k < length order → j ≢ k → slice_index order j ≢ slice_index order k
apart_any n order places j k low high ne e = elim (cases_lt j k) [
  | inl less ↦ places.apart j k less high e
  | inr most ↦ places.apart k j (omega arith) low (sym e)
]

-- of two places in a prefix-free list only one front begins a text
pub only_one : (fronts : List (List ℕ)) → ArePrefixFree fronts → (text : List ℕ) (p q : ℕ) → p < length fronts → q < length fronts → p ≢ q
    → begins (front_at fronts p) text ≡ true → begins (front_at fronts q) text ≡ false
only_one fronts free text p q low high ne first = fails (begins (front_at fronts q) text) (λ second.
    elim (one_begins (front_at fronts p) (front_at fronts q) text first second) [
      | inl e ↦ true≢false (sym e ∙ free p q low high ne)
      | inr e ↦ true≢false (sym e ∙ free q p high low (λ same. ne (sym same)))
    ])

-- a front that begins its neighbour in order
pub begins_neighbour : (fronts : List (List ℕ)) (order : List ℕ) → ArePlaces (length fronts) order → (k : ℕ) → k + 1 < length order
    → begins (front_in fronts order k) (front_in fronts order (k + 1)) ≡ true → ¬ ArePrefixFree fronts
begins_neighbour fronts order places k inside begun free =
    true≢false (sym begun ∙ free (slice_index order k) (slice_index order (k + 1)) (places.in_range k (omega arith)) (places.in_range (k + 1) inside)
    (places.apart k (k + 1) (omega arith) inside))

-- where no front begins its neighbour in order, none begins another
pub free_by_neighbours : (fronts : List (List ℕ)) (order : List ℕ) → ArePlaces (length fronts) order → Ascends fronts order
    → ((k : ℕ) → k + 1 < length order → begins (front_in fronts order k) (front_in fronts order (k + 1)) ≡ false) → ArePrefixFree fronts
free_by_neighbours fronts order places ascends none p q low high ne = fails (begins (front_at fronts p) (front_at fronts q)) (λ begun.
    let a = places.covers p low in
    let b = places.covers q high in
    apart_by a.0 b.0 a.1 b.1 a.2 b.2 begun)
  where
    up_to : (j k : ℕ) → j < k → k < length order → IsAtMost (front_in fronts order (j + 1)) (front_in fronts order k)
    up_to j k l h = elim (cases_lt (j + 1) k) [
      | inl less ↦ ascends (j + 1) k less h
      | inr most ↦ let same : k ≡ j + 1 = omega arith in rw same (at_most_itself (front_in fronts order (j + 1)))
    ]

    apart_by : (a b : ℕ) → a < length order → b < length order → slice_index order a ≡ p → slice_index order b ≡ q
        → begins (front_at fronts p) (front_at fronts q) ≡ true → ⊥
    apart_by a b la lb ea eb begun =
        let begins_ab : begins (front_in fronts order a) (front_in fronts order b) ≡ true = rw (ea, eb) begun in
        elim (cases_lt a b) [
          | inl less ↦ true≢false (sym (between (front_in fronts order a) (front_in fronts order (a + 1)) (front_in fronts order b) begins_ab
              (ascends a (a + 1) (omega arith) (omega arith)) (up_to a b less lb)) ∙ none a (omega arith))
          | inr most ↦
              elim (cases_lt b a) [
                | inl less ↦
                    true≢false (sym (between (front_in fronts order b) (front_in fronts order (b + 1)) (front_in fronts order b) (begins_itself (front_in fronts order b))
                    (ascends b (b + 1) (omega arith) (omega arith))
                    (at_most_over (front_in fronts order (b + 1)) (front_in fronts order a) (front_in fronts order b) (up_to b a less la)
                    (begun_at_most (front_in fronts order a) (front_in fronts order b) begins_ab))) ∙ none b (omega arith))
                | inr least ↦ let same : a ≡ b = omega arith in ne (sym ea ∙ ap (slice_index order) same ∙ eb)
              ]
        ]

-- where a text begins with some front of a prefix-free list, that front stands directly before it
pub begun_last : (fronts : List (List ℕ)) (order text : List ℕ) (k : ℕ) (begun : Bool) → ArePlaces (length fronts) order → Ascends fronts order → ArePrefixFree fronts
    → StandsBetween fronts order text k k begun → (p : ℕ) → p < length fronts → begins (front_at fronts p) text ≡ true → (0 < k) × (slice_index order (k - 1) ≡ p)
begun_last fronts order text k begun places ascends free stands p low first =
    let a = places.covers p low in at_index a.0 a.1 a.2
  where
    at_index : (a : ℕ) → a < length order → slice_index order a ≡ p → (0 < k) × (slice_index order (k - 1) ≡ p)
    at_index a la ea =
        let begins_a : begins (front_in fronts order a) text ≡ true = rw ea first in
        elim (cases_lt a k) [
          | inl less ↦
              elim (cases_lt a (k - 1)) [
                | inl before ↦ absurd (true≢false (sym (between (front_in fronts order a) (front_in fronts order (k - 1)) text begins_a
                    (ascends a (k - 1) before (omega (arith, stands.within))) (stands.below (k - 1) (omega arith)))
                    ∙ free (slice_index order a) (slice_index order (k - 1)) (places.in_range a la) (places.in_range (k - 1) (omega (arith, stands.within)))
                    (places.apart a (k - 1) before (omega (arith, stands.within)))))
                | inr after ↦ (omega arith, let same : k - 1 ≡ a = omega arith in rw same ea)
              ]
          | inr most ↦ absurd (true≢false (sym (stands.above a most la) ∙ begun_at_most (front_in fronts order a) text begins_a))
        ]

-- a grown front of a prefix-free list is how no other begins, and no other is how it begins
pub grown_free : (fronts : List (List ℕ)) → ArePrefixFree fronts → (p : ℕ) (grown : List ℕ) → p < length fronts → begins (front_at fronts p) grown ≡ true → ArePrefixFree (set fronts p grown)
grown_free fronts free p grown inside grows i j li lj ne =
    let low : i < length fronts = omega (arith, length-set fronts p grown) in
    let high : j < length fronts = omega (arith, length-set fronts p grown) in
    elim (cases_eq i p) [
      | inl same ↦
          let other : j ≢ p = λ e. ne (same ∙ sym e) in
          rw (same, get_or-set_same fronts p grown [] inside, get_or-set_other fronts p j grown [] other)
          (fails (begins grown (front_at fronts j)) (λ e.
          true≢false (sym (begins_through (front_at fronts p) grown (front_at fronts j) grows e) ∙ free p j inside high (λ x. other (sym x)))))
      | inr apart ↦
          elim (cases_eq j p) [
            | inl same ↦
                rw (same, get_or-set_same fronts p grown [] inside, get_or-set_other fronts p i grown [] apart)
                (only_one fronts free grown p i inside low (λ x. apart (sym x)) grows)
            | inr other ↦
                rw (get_or-set_other fronts p i grown [] apart, get_or-set_other fronts p j grown [] other) (free i j low high ne)
          ]
    ]
