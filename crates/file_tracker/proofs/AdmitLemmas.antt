-- A front is admitted: its place is put where it stands, and whether it begins another or another begins it is known.
use Rattle.std.proofs.Common.{◌≡◌, ℕ, ◌+◌, ◌-◌, ◌<◌, ◌≤◌, Bool, true, false, true≢false, List, [], ◌∷◌, ◌++◌, length, refl, sym, ap, inl, inr, ◌∙◌, arith, slice_index, if◌then◌else◌, nat_lt, MatchBool}
use Rattle.std.proofs.lemmas.Bool.{cases_lt, cases_eq, lt-ltb, ltb-true}
use Rattle.std.proofs.lemmas.Bool.Decides.{nat_tests}
use Rattle.std.proofs.lemmas.List.{get_or_append_left, get_or_push, length_push}
use Rattle.std.proofs.lemmas.List.Edits.{length-insert, get_or-insert_below, get_or-insert_at, get_or-insert_above}
use Rattle.std.specs.List.{insert}
use Rattle.file_tracker.specs.Fronts.{begins, front_at, ArePrefixFree}
use Rattle.file_tracker.specs.Order.{IsAtMost, front_in, ArePlaces, Ascends, StandsBetween, IsIndex}
use Rattle.file_tracker.proofs.FrontLemmas.{above_is_over}
use Rattle.file_tracker.proofs.FreeLemmas.{free_by_neighbours}
use Rattle.file_tracker.proofs.OrderLemmas.{StandsAt, stands_at, places_inserted}

-- the fronts and the order with one more
abbrev more_fronts : List (List ℕ) → List ℕ → List (List ℕ)
more_fronts fronts front = fronts ++ front ∷ []

abbrev more_order : List (List ℕ) → List ℕ → ℕ → List ℕ
more_order fronts order k = insert order k (length fronts)

front_of_old : (fronts : List (List ℕ)) (order : List ℕ) (front : List ℕ) (k i m : ℕ) → ArePlaces (length fronts) order → m < length order
    → slice_index (more_order fronts order k) i ≡ slice_index order m → front_in (more_fronts fronts front) (more_order fronts order k) i ≡ front_in fronts order m
front_of_old fronts order front k i m places inside e =
    ap (front_at (more_fronts fronts front)) e ∙ get_or_append_left fronts (front ∷ []) [] (slice_index order m) (places.in_range m inside)

front_of_new : (fronts : List (List ℕ)) (order : List ℕ) (front : List ℕ) (k i : ℕ)
    → slice_index (more_order fronts order k) i ≡ length fronts → front_in (more_fronts fronts front) (more_order fronts order k) i ≡ front
front_of_new fronts order front k i e = ap (front_at (more_fronts fronts front)) e ∙ get_or_push fronts front [] (length fronts) refl

ascends_more : (fronts : List (List ℕ)) (order : List ℕ) (front : List ℕ) (k : ℕ) (begun : Bool) → ArePlaces (length fronts) order → Ascends fronts order
    → StandsBetween fronts order front k k begun → Ascends (more_fronts fronts front) (more_order fronts order k)
ascends_more fronts order front k begun places ascends stands j i l h =
    let size : length (more_order fronts order k) ≡ length order + 1 = length-insert order k (length fronts) stands.within in
    let v = stands_at order k (length fronts) j stands.within (omega (arith, size)) in
    let w = stands_at order k (length fronts) i stands.within (omega (arith, size)) in
    compared v.0 w.0 v.1 w.1
  where
    compared : (m o : ℕ) → StandsAt order (more_order fronts order k) k (length fronts) j m → StandsAt order (more_order fronts order k) k (length fronts) i o
        → IsAtMost (front_in (more_fronts fronts front) (more_order fronts order k) j) (front_in (more_fronts fronts front) (more_order fronts order k) i)
    compared m o v w = elim v.which [
      | inl low ↦ elim w.which [
        | inl other ↦ rw (front_of_old fronts order front k j m places low.3 low.2, front_of_old fronts order front k i o places other.3 other.2)
            (ascends m o (omega (arith, low.1, other.1)) other.3)
        | inr (inl here) ↦ rw (front_of_old fronts order front k j m places low.3 low.2, front_of_new fronts order front k i here.1) (stands.below m (omega (arith, low.0, low.1)))
        | inr (inr high) ↦ rw (front_of_old fronts order front k j m places low.3 low.2, front_of_old fronts order front k i o places high.3 high.2)
            (ascends m o (omega (arith, low.0, low.1, high.0, high.1)) high.3)
      ]
      | inr (inl here) ↦ elim w.which [
        | inl low ↦ absurd (omega (arith, low.0, here.0))
        | inr (inl other) ↦ absurd (omega (arith, here.0, other.0))
        | inr (inr high) ↦ rw (front_of_new fronts order front k j here.1, front_of_old fronts order front k i o places high.3 high.2)
            (above_is_over (front_in fronts order o) front (stands.above o (omega (arith, high.0, high.1)) high.3))
      ]
      | inr (inr high) ↦ elim w.which [
        | inl low ↦ absurd (omega (arith, low.0, high.0))
        | inr (inl here) ↦ absurd (omega (arith, here.0, high.0))
        | inr (inr other) ↦ rw (front_of_old fronts order front k j m places high.3 high.2, front_of_old fronts order front k i o places other.3 other.2)
            (ascends m o (omega (arith, high.1, other.1)) other.3)
      ]
    ]

-- neither an old front, nor the one before the new, nor the new one begins another
free_more : (fronts : List (List ℕ)) (order : List ℕ) (front : List ℕ) (k : ℕ) → ArePlaces (length fronts) order → Ascends fronts order → ArePrefixFree fronts
    → StandsBetween fronts order front k k false → (k < length order → begins front (front_in fronts order k) ≡ false) → ArePrefixFree (more_fronts fronts front)
free_more fronts order front k places ascends free stands ahead =
    free_by_neighbours (more_fronts fronts front) (more_order fronts order k) (rw length_push (places_inserted (length fronts) order k stands.within places))
    (ascends_more fronts order front k false places ascends stands) neighbours
  where
    size : length (more_order fronts order k) ≡ length order + 1
    size = length-insert order k (length fronts) stands.within

    low : (i : ℕ) → i < k → front_in (more_fronts fronts front) (more_order fronts order k) i ≡ front_in fronts order i
    low i l = front_of_old fronts order front k i i places (omega (arith, stands.within)) (get_or-insert_below order k (length fronts) 0 i l stands.within)

    here : front_in (more_fronts fronts front) (more_order fronts order k) k ≡ front
    here = front_of_new fronts order front k k (get_or-insert_at order k (length fronts) 0 stands.within)

    high : (i : ℕ) → k ≤ i → i < length order → front_in (more_fronts fronts front) (more_order fronts order k) (i + 1) ≡ front_in fronts order i
    high i l h = front_of_old fronts order front k (i + 1) i places h (get_or-insert_above order k (length fronts) 0 i l stands.within)

    old : (i : ℕ) → i + 1 < length order → begins (front_in fronts order i) (front_in fronts order (i + 1)) ≡ false
    old i h = free (slice_index order i) (slice_index order (i + 1)) (places.in_range i (omega arith)) (places.in_range (i + 1) h) (places.apart i (i + 1) (omega arith) h)

    neighbours : (i : ℕ) → i + 1 < length (more_order fronts order k)
        → begins (front_in (more_fronts fronts front) (more_order fronts order k) i) (front_in (more_fronts fronts front) (more_order fronts order k) (i + 1)) ≡ false
    neighbours i h = elim (cases_lt (i + 1) k) [
      | inl less ↦ rw (low i (omega arith), low (i + 1) less) (old i (omega (arith, stands.within)))
      | inr most ↦ elim (cases_eq (i + 1) k) [
        | inl e ↦
            let last : k - 1 ≡ i = omega arith in
            rw (low i (omega arith), e, here) (last_begins i last (omega arith))
        | inr over ↦ elim (cases_eq i k) [
          | inl e ↦ rw (e, here, high k (omega arith) (omega (arith, size))) (ahead (omega (arith, size)))
          | inr above ↦
              let before : i ≡ (i - 1) + 1 = omega arith in
              rw (high i (omega arith) (omega (arith, size))) (shifted i (i - 1) before (omega arith) (omega (arith, size)))
        ]
      ]
    ]
      where
        last_begins : (i : ℕ) → k - 1 ≡ i → 0 < k → begins (front_in fronts order i) front ≡ false
        last_begins i last some = let said = stands.begins_last in grind (arith, nat_tests, said, last)

        shifted : (i m : ℕ) → i ≡ m + 1 → k ≤ m → i < length order → begins (front_in (more_fronts fronts front) (more_order fronts order k) i) (front_in fronts order i) ≡ false
        shifted i m e l h = rw e (rw (high m l (omega arith)) (old m (omega arith)))

pub test_true : (t b : Bool) → true ≡ (if t then b else false) → (t ≡ true) × (b ≡ true)
test_true true b e = (refl, sym e)
test_true false b e = absurd (true≢false e)

test_false : (t b : Bool) → t ≡ true → false ≡ (if t then b else false) → b ≡ false
test_false true b h e = sym e
test_false false b h e = absurd (true≢false (sym h))

pub admitted : (fronts : List (List ℕ)) (order : List ℕ) (front : List ℕ) (k : ℕ) (nested begun ahead now : Bool) → IsIndex fronts order nested
    → StandsBetween fronts order front k k begun → ahead ≡ (if nat_lt k (length order) then begins front (front_in fronts order k) else false)
    → now ≡ (if nested then true else if begun then true else ahead) → IsIndex (more_fronts fronts front) (more_order fronts order k) now
admitted fronts order front k nested begun ahead now index stands next is = record {
  places = rw length_push (places_inserted (length fronts) order k stands.within index.places);
  ascends = ascends_more fronts order front k begun index.places index.ascends stands;
  known = flagged nested begun ahead now index.known stands next is;
}
  where
    old : (p : ℕ) → p < length fronts → front_at (more_fronts fronts front) p ≡ front_at fronts p
    old p l = get_or_append_left fronts (front ∷ []) [] p l

    last : front_at (more_fronts fronts front) (length fronts) ≡ front
    last = get_or_push fronts front [] (length fronts) refl

    inside : (p : ℕ) → p < length fronts + 1 → p < length (more_fronts fronts front)
    inside p l = rw length_push l

    flagged : (nested begun ahead now : Bool) → MatchBool nested (¬ ArePrefixFree fronts) (ArePrefixFree fronts) → StandsBetween fronts order front k k begun
        → ahead ≡ (if nat_lt k (length order) then begins front (front_in fronts order k) else false) → now ≡ (if nested then true else if begun then true else ahead)
        → MatchBool now (¬ ArePrefixFree (more_fronts fronts front)) (ArePrefixFree (more_fronts fronts front))
    flagged true begun ahead now was stands next is = rw is (λ free. was (λ i j l h ne.
        rw (← old i l, ← old j h) (free i j (inside i (omega arith)) (inside j (omega arith)) ne)))
    flagged false true ahead now was stands next is = rw is (λ free.
        let both = test_true (nat_lt 0 k) (begins (front_in fronts order (k - 1)) front) stands.begins_last in
        let some : 0 < k = ltb-true 0 k both.0 in
        let place : slice_index order (k - 1) < length fronts = index.places.in_range (k - 1) (omega (arith, stands.within)) in
        let apart = free (slice_index order (k - 1)) (length fronts) (inside (slice_index order (k - 1)) (omega arith)) (inside (length fronts) (omega arith)) (λ e. omega arith) in
        true≢false (sym both.1 ∙ (rw (last, old (slice_index order (k - 1)) place) at apart)))
    flagged false false true now was stands next is = rw is (λ free.
        let both = test_true (nat_lt k (length order)) (begins front (front_in fronts order k)) next in
        let place : slice_index order k < length fronts = index.places.in_range k (ltb-true k (length order) both.0) in
        let apart = free (length fronts) (slice_index order k) (inside (length fronts) (omega arith)) (inside (slice_index order k) (omega arith)) (λ e. omega arith) in
        true≢false (sym both.1 ∙ (rw (last, old (slice_index order k) place) at apart)))
    flagged false false false now was stands next is =
        rw is (free_more fronts order front k index.places index.ascends was stands (λ l. test_false (nat_lt k (length order)) (begins front (front_in fronts order k)) (lt-ltb k (length order) l) next))
