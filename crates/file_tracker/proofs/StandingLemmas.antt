-- One step of the search by the order of the fronts.
use Rattle.std.proofs.Common.{◌≡◌, ℕ, ◌+◌, ◌-◌, ◌<◌, ◌≤◌, Bool, true, false, List, length, take, refl, sym, ap, subst, inl, inr, ◌∙◌, arith, Ordering}
use Rattle.std.specs.Cmp.Lexicographic.{slice_cmp}
use Rattle.std.specs.Ordering.{nat_cmp, is_gt, is_eq}
use Rattle.std.proofs.lemmas.Bool.{cases_lt}
use Rattle.std.proofs.lemmas.Bool.Decides.{nat_tests}
use Rattle.file_tracker.specs.Fronts.{begins}
use Rattle.file_tracker.specs.Order.{IsAtMost, IsAbove, front_in, Ascends, StandsBetween}
use Rattle.file_tracker.proofs.FrontLemmas.{shortened, tied, at_most_over, above_under}

-- before any comparison
pub stands_anywhere : (fronts : List (List ℕ)) (order text : List ℕ) → StandsBetween fronts order text 0 (length order) false
stands_anywhere fronts order text = record {
  ordered = omega arith;
  within = omega arith;
  below = λ k h. absurd (omega arith);
  above = λ k h l. absurd (omega arith);
  begins_last = refl;
}

pub goes_right : (fronts : List (List ℕ)) (order text : List ℕ) (low high middle : ℕ) (begun : Bool) (front : List ℕ) (standing : Ordering)
    → Ascends fronts order → StandsBetween fronts order text low high begun → middle < high → front ≡ front_in fronts order middle
    → standing ≡ slice_cmp nat_cmp front (take (length front) text) → is_gt standing ≡ false → StandsBetween fronts order text (middle + 1) high (is_eq standing)
goes_right fronts order text low high middle begun front standing ascends stands inside read compared under =
    let here : IsAtMost (front_in fronts order middle) text =
    subst (λ (f : List ℕ). IsAtMost f text) read (sym (shortened front text) ∙ ap is_gt (sym compared) ∙ under) in
    record {
      ordered = omega arith;
      within = stands.within;
      below = λ k h. elim (cases_lt k middle) [
        | inl less ↦ at_most_over (front_in fronts order k) (front_in fronts order middle) text (ascends k middle less (omega (arith, stands.within))) here
        | inr most ↦ let same : k ≡ middle = omega arith in rw same here
      ];
      above = stands.above;
      begins_last = let last : middle + 1 - 1 ≡ middle = omega arith in
          rw last (grind (arith, nat_tests, ap is_eq compared, tied front text, ap (λ (f : List ℕ). begins f text) read));
    }

pub goes_left : (fronts : List (List ℕ)) (order text : List ℕ) (low high middle : ℕ) (begun : Bool) (front : List ℕ) (standing : Ordering)
    → Ascends fronts order → StandsBetween fronts order text low high begun → low ≤ middle → middle < high → front ≡ front_in fronts order middle
    → standing ≡ slice_cmp nat_cmp front (take (length front) text) → is_gt standing ≡ true → StandsBetween fronts order text low middle begun
goes_left fronts order text low high middle begun front standing ascends stands from inside read compared over =
    let here : IsAbove (front_in fronts order middle) text =
    subst (λ (f : List ℕ). IsAbove f text) read (sym (shortened front text) ∙ ap is_gt (sym compared) ∙ over) in
    record {
      ordered = from;
      within = omega (arith, stands.within);
      below = stands.below;
      above = λ k h l. elim (cases_lt middle k) [
        | inl less ↦ above_under (front_in fronts order middle) (front_in fronts order k) text here (ascends middle k less l)
        | inr most ↦ let same : k ≡ middle = omega arith in rw same here
      ];
      begins_last = stands.begins_last;
    }
