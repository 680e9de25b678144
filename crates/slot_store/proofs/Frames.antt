-- Whether a frame is open, and what its head says.
use Rattle.std.proofs.Common.{◌≡◌, ℕ, ◌+◌, ◌<◌, ◌≤◌, List, ◌∷◌, length, take, drop, get_or, true, false, Some, None, refl, sym, ◌∙◌, ap, arith, length-drop}
use Rattle.std.proofs.lemmas.Bool.Decides.{nat_tests}
use Rattle.std.proofs.lemmas.List.{take-take, drop-take, drop-drop, get_or-drop, get_or-take, length-take, take_all}
use Rattle.std.specs.Int.{w64, from_be_bytes}
use Rattle.slot_store.specs.Frame.{last_number, number_at, length_at, is_open_at, HasParts}
use Rattle.slot_store.specs.Head.{head_at}

-- a part of the front of two lists whose fronts are equal
pub take_inside : (xs ys : List ℕ) (at count most : ℕ) → at + count ≤ most → take most xs ≡ take most ys → take count (drop at xs) ≡ take count (drop at ys)
take_inside xs ys at count most within same =
    sym (drop-take at count xs)
    ∙ ap (λ front. drop at front) (sym (take-take (at + count) most xs within) ∙ ap (λ front. take (at + count) front) same ∙ take-take (at + count) most ys within)
    ∙ drop-take at count ys

pub closed_by_gate : (place : ℕ) (content : List ℕ) → (get_or content place 0 ≡ 165 → ⊥) → is_open_at place content ≡ false
unfolding is_open_at
closed_by_gate place content closed = grind (arith, nat_tests)

pub closed_by_end : (place : ℕ) (content : List ℕ) → length content < place + 17 + length_at place content → is_open_at place content ≡ false
unfolding is_open_at
closed_by_end place content short = grind (arith, nat_tests)

pub open_by_both : (place : ℕ) (content : List ℕ) → get_or content place 0 ≡ 165 → place + 17 + length_at place content ≤ length content → place + 17 + length_at place content ≤ last_number → is_open_at place content ≡ true
unfolding is_open_at
open_by_both place content gate whole within = grind (arith, nat_tests)

pub head_closed : (place : ℕ) (content : List ℕ) → is_open_at place content ≡ false → head_at place content ≡ None
unfolding head_at
head_closed place content closed = rw closed refl

-- These bytes are the front of the content from this place on.
pub record IsFrontAt (place : ℕ) (content front : List ℕ) : Type 0 where
  pub same : take 17 (drop place content) ≡ take 17 front

pub number_in_front : (place at : ℕ) (content front : List ℕ) → at + 8 ≤ 17 → IsFrontAt place content front → number_at (place + at) content ≡ number_at at front
unfolding number_at
number_in_front place at content front within is_front =
    ap (λ bytes. from_be_bytes w64 bytes) (ap (λ rest. take 8 rest) (sym (drop-drop at place content)) ∙ take_inside (drop place content) front at 8 17 within is_front.same)

pub gate_in_front : (place : ℕ) (content front : List ℕ) → IsFrontAt place content front → get_or content place 0 ≡ get_or front 0 0
gate_in_front place content front is_front =
    let at : place ≡ place + 0 = omega arith in
    ap (λ k. get_or content k 0) at
    ∙ sym (get_or-drop place content 0 0)
    ∙ sym (get_or-take 17 (drop place content) 0 0 (omega arith))
    ∙ ap (λ bytes. get_or bytes 0 0) is_front.same
    ∙ get_or-take 17 front 0 0 (omega arith)

-- The bytes end before the head does.
pub head_cut : (place : ℕ) (content front : List ℕ) → IsFrontAt place content front → length front < 17 → head_at place content ≡ None
head_cut place content front is_front short =
    let all : length (take 17 (drop place content)) ≡ length front = ap length is_front.same ∙ ap length (take_all 17 front (omega arith)) in
    head_closed place content (closed_by_end place content (omega (arith, cut_length 17 (drop place content), length-drop place content)))
  where
    cut_length : (most : ℕ) (xs : List ℕ) → length (take most xs) < most → length xs < most
    cut_length most xs short = grind (arith, length-take)

pub head_shut : (place gate sequence size : ℕ) (content front : List ℕ) → IsFrontAt place content front → HasParts front gate sequence size → (gate ≡ 165 → ⊥) → head_at place content ≡ None
head_shut place gate sequence size content front is_front parts shut =
    head_closed place content (closed_by_gate place content (λ is_open. shut (sym parts.gate_is ∙ sym (gate_in_front place content front is_front) ∙ is_open)))

pub head_past : (place gate sequence size : ℕ) (content front : List ℕ) → IsFrontAt place content front → HasParts front gate sequence size → length content < place + 17 + size → head_at place content ≡ None
head_past place gate sequence size content front is_front parts past =
    head_closed place content (closed_by_end place content (omega (arith, number_in_front place 9 content front (omega arith) is_front ∙ parts.size_is)))

pub head_open : (place gate sequence size : ℕ) (content front : List ℕ) → IsFrontAt place content front → HasParts front gate sequence size → gate ≡ 165 → place + 17 + size ≤ length content → length content ≤ last_number → head_at place content ≡ Some (record { sequence = sequence; length = size })
unfolding head_at
head_open place gate sequence size content front is_front parts opens whole within =
    let number : number_at (place + 1) content ≡ sequence = number_in_front place 1 content front (omega arith) is_front ∙ parts.sequence_is in
    let long : number_at (place + 9) content ≡ size = number_in_front place 9 content front (omega arith) is_front ∙ parts.size_is in
    let opened : is_open_at place content ≡ true = open_by_both place content (gate_in_front place content front is_front ∙ parts.gate_is ∙ opens) (omega arith) (omega arith) in
    rw (opened, number, long) refl

pub parts_are : (front rest first behind second last : List ℕ) (gate sequence size : ℕ) → front ≡ gate ∷ rest → first ≡ take 8 rest → behind ≡ drop 8 rest → length behind + 8 ≡ length rest → second ≡ take 8 behind → length last + 8 ≡ length behind → sequence ≡ from_be_bytes w64 first → size ≡ from_be_bytes w64 second → HasParts front gate sequence size
unfolding number_at
parts_are front rest first behind second last gate sequence size split one two long three short sequence_is size_is = record {
  whole = omega (arith, ap length split);
  gate_is = ap (λ bytes. get_or bytes 0 0) split;
  sequence_is = ap (λ bytes. from_be_bytes w64 bytes) (ap (λ bytes. take 8 (drop 1 bytes)) split ∙ sym one) ∙ sym sequence_is;
  size_is = ap (λ bytes. from_be_bytes w64 bytes) (ap (λ bytes. take 8 (drop 9 bytes)) split ∙ ap (λ bytes. take 8 bytes) (sym two) ∙ sym three) ∙ sym size_is;
}

-- a front that was filled as far as the file goes
pub front_filled : (place count : ℕ) (content buffer : List ℕ) → length buffer ≡ 17 → take count buffer ≡ take (length buffer) (drop place content) → take 17 (drop place content) ≡ take 17 (take count buffer)
front_filled place count content buffer long filled =
    sym (ap (λ bytes. take 17 bytes) (filled ∙ ap (λ n. take n (drop place content)) long) ∙ take-take 17 17 (drop place content) (omega arith))
