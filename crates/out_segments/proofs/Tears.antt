-- Writes to a part of a list.
use Rattle.std.proofs.Common.{◌≡◌, ℕ, ◌+◌, ◌-◌, ◌<◌, ◌≤◌, List, [], ◌++◌, length, take, get_or, sym, ◌∙◌, ap, arith, length-append, inl, inr}
use Rattle.std.proofs.lemmas.Bool.{cases_lt}
use Rattle.std.proofs.lemmas.List.{get_or_append_left, get_or-append-add, get_or-take, length-take-le}
use Rattle.outside.specs.Image.{Torn, Holds}

pub torn_wider : (offset size from count : ℕ) (old new : List ℕ) → offset ≤ from → from + count ≤ offset + size → Torn from count old new → Torn offset size old new
torn_wider offset size from count old new above below torn = record {
  before = λ k early within. torn.before k (omega arith) within;
  after = λ k late within. torn.after k (omega arith) within;
  no_shorter = torn.no_shorter;
  no_longer = omega (arith, torn.no_longer);
}

pub torn_then : (offset size : ℕ) (old mid new : List ℕ) → Torn offset size old mid → Torn offset size mid new → Torn offset size old new
torn_then offset size old mid new a b = record {
  before = λ k early within. b.before k early (omega (arith, a.no_shorter)) ∙ a.before k early within;
  after = λ k late within. b.after k late (omega (arith, a.no_shorter)) ∙ a.after k late within;
  no_shorter = omega (arith, a.no_shorter, b.no_shorter);
  no_longer = omega (arith, a.no_longer, b.no_longer);
}

module _ (front old new : List ℕ) where
  pub same_behind : (k : ℕ) → ((j : ℕ) → k ≡ length front + j → get_or new j 0 ≡ get_or old j 0) → get_or (front ++ new) k 0 ≡ get_or (front ++ old) k 0
  same_behind k behind = elim (cases_lt k (length front)) [
    | inl early ↦ (get_or_append_left front new 0 k early ∙ sym (get_or_append_left front old 0 k early))
    | inr late ↦ (let j = k - length front in let at : k ≡ length front + j = omega arith in rw at (get_or-append-add front new j 0 ∙ behind j at ∙ sym (get_or-append-add front old j 0)))
  ]

  -- a write behind what stands in front
  pub torn_behind : (offset size : ℕ) → Torn offset size old new → Torn (length front + offset) size (front ++ old) (front ++ new)
  torn_behind offset size torn = record {
    before = λ k early within. same_behind k (λ j at. torn.before j (omega arith) (omega (arith, length-append front old)));
    after = λ k late within. same_behind k (λ j at. torn.after j (omega arith) (omega (arith, length-append front old)));
    no_shorter = omega (arith, torn.no_shorter, length-append front old, length-append front new);
    no_longer = omega (arith, torn.no_longer, length-append front old, length-append front new);
  }

module _ (old new rest : List ℕ) (alike : length new ≡ length old) where
  same_before : (k : ℕ) → (k < length old → get_or new k 0 ≡ get_or old k 0) → get_or (new ++ rest) k 0 ≡ get_or (old ++ rest) k 0
  same_before k before = elim (cases_lt k (length old)) [
    | inl early ↦ (get_or_append_left new rest 0 k (omega arith) ∙ before early ∙ sym (get_or_append_left old rest 0 k early))
    | inr late ↦
        (let j = k - length old in
        let at_new : k ≡ length new + j = omega arith in
        let at_old : k ≡ length old + j = omega arith in
        ap (λ i. get_or (new ++ rest) i 0) at_new ∙ get_or-append-add new rest j 0 ∙ sym (get_or-append-add old rest j 0) ∙ sym (ap (λ i. get_or (old ++ rest) i 0) at_old))
  ]

  -- a write that keeps the length, before what stands behind
  pub torn_before : (offset size : ℕ) → Torn offset size old new → Torn offset size (old ++ rest) (new ++ rest)
  torn_before offset size torn = record {
    before = λ k early within. same_before k (λ short. torn.before k early short);
    after = λ k late within. same_before k (λ short. torn.after k late short);
    no_shorter = omega (arith, length-append old rest, length-append new rest);
    no_longer = omega (arith, length-append old rest, length-append new rest);
  }

-- the first bytes of a file, where the write is in them
pub torn_front : (first offset size : ℕ) (old new : List ℕ) → first ≤ length old → Torn offset size old new → Torn offset size (take first old) (take first new)
torn_front first offset size old new within torn =
    let old_is : length (take first old) ≡ first = length-take-le first old within in
    let new_is : length (take first new) ≡ first = length-take-le first new (omega (arith, torn.no_shorter)) in
    record {
      before = λ k early short. get_or-take first new k 0 (omega arith) ∙ torn.before k early (omega arith) ∙ sym (get_or-take first old k 0 (omega arith));
      after = λ k late short. get_or-take first new k 0 (omega arith) ∙ torn.after k late (omega arith) ∙ sym (get_or-take first old k 0 (omega arith));
      no_shorter = omega arith;
      no_longer = omega arith;
    }

-- a write, and one behind it
pub holds_then : (offset : ℕ) (first second old mid new : List ℕ) → Holds offset first old mid → Holds (offset + length first) second mid new → Holds offset (first ++ second) old new
holds_then offset first second old mid new a b =
    let long : length (first ++ second) ≡ length first + length second = length-append first second in
    record {
      outside = torn_then offset (length (first ++ second)) old mid new
          (torn_wider offset (length (first ++ second)) offset (length first) old mid (omega arith) (omega arith) a.outside)
          (torn_wider offset (length (first ++ second)) (offset + length first) (length second) mid new (omega arith) (omega arith) b.outside);
      inside = λ k within. elim (cases_lt k (length first)) [
        | inl early ↦ (b.outside.before (offset + k) (omega arith) (omega (arith, a.reaches)) ∙ a.inside k early ∙ sym (get_or_append_left first second 0 k early))
        | inr late ↦
            (let j = k - length first in
            let at : offset + k ≡ offset + length first + j = omega arith in
            let is : k ≡ length first + j = omega arith in
            ap (λ i. get_or new i 0) at ∙ b.inside j (omega arith) ∙ sym (get_or-append-add first second j 0) ∙ sym (ap (λ i. get_or (first ++ second) i 0) is))
      ];
      reaches = omega (arith, b.reaches);
    }
