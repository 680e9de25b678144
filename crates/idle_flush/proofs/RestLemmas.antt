-- What holds of the tokens of a rest.
use Rattle.std.proofs.Common.{◌≡◌, sym, ap, ◌∙◌, refl, ℕ, zero, suc, ◌-◌, ◌<◌, ◌≤◌, List, [], ◌∷◌, length, take, drop, Some, None, slice_range, inl, inr, arith, length-drop}
use Rattle.std.proofs.lemmas.Bool.{cases_lt}
use Rattle.std.proofs.lemmas.Bool.Decides.{nat_tests}
use Rattle.std.proofs.lemmas.List.Sums.{sum_by-cons}
use Rattle.std.specs.Prelude.{slice_index, ◌≢◌}
use Rattle.std.specs.Str.Lines.{strip_carriage_return}
use Rattle.line_splitter.specs.Cuts.{Cut, cut, cuts, cuts_within, used_by}
use Rattle.idle_flush.specs.Rests.{rest_cut, rest_cuts, without_line_end, BeginsRest}

pub rest_cut-long : (max : ℕ) (b : List ℕ) → max < length b → rest_cut max b ≡ Some (cut (take max b) max)
unfolding rest_cut
rest_cut-long max b long = grind (arith, nat_tests)

pub rest_cut-none : (max : ℕ) (b : List ℕ) → length b ≡ 0 → rest_cut max b ≡ None
unfolding rest_cut
rest_cut-none max b empty = grind (arith, nat_tests)

pub rest_cut-last : (max : ℕ) (b : List ℕ) → length b ≤ max → 1 ≤ length b → rest_cut max b ≡ Some (cut (without_line_end b) (length b))
unfolding rest_cut
rest_cut-last max b short some = grind (arith, nat_tests)

pub rest_at_max : (max : ℕ) (b : List ℕ) → max < length b → rest_cut max b ≡ Some (cut (slice_range b 0 max) max)
rest_at_max max b long =
    let whole : max - 0 ≡ max = omega arith in
    rest_cut-long max b long ∙ rw whole refl

pub rest_at_end : (max : ℕ) (b : List ℕ) (to : ℕ) → length b ≤ max → 1 ≤ length b → take to b ≡ without_line_end b → rest_cut max b ≡ Some (cut (slice_range b 0 to) (length b))
rest_at_end max b to short some text =
    let whole : to - 0 ≡ to = omega arith in
    rest_cut-last max b short some ∙ rw (← text, whole) refl

pub line_end_cut : (b : List ℕ) → slice_index b (length b - 1) ≡ 10 → without_line_end b ≡ strip_carriage_return (take (length b - 1) b)
unfolding without_line_end
line_end_cut b is = rw is refl

pub no_line_end : (b : List ℕ) → slice_index b (length b - 1) ≢ 10 → without_line_end b ≡ b
unfolding without_line_end
no_line_end b not = grind (arith, nat_tests)

within-none : (max n : ℕ) (b : List ℕ) → rest_cut max b ≡ None → cuts_within (rest_cut max) n b ≡ []
unfolding cuts_within
within-none max zero b is = refl
within-none max (suc n) b is = rw is refl

within-some : (max n : ℕ) (b : List ℕ) (c : Cut) → rest_cut max b ≡ Some c → cuts_within (rest_cut max) (suc n) b ≡ c ∷ cuts_within (rest_cut max) n (drop c.used b)
unfolding cuts_within
within-some max n b c is = rw is refl

uses_all_within : (max n : ℕ) (b : List ℕ) → 1 ≤ max → length b ≤ n → used_by (cuts_within (rest_cut max) n b) ≡ length b
uses_all_within max zero b some enough = rw (within-none max zero b (rest_cut-none max b (omega (arith, enough)))) (omega (arith, enough))
uses_all_within max (suc n) b some enough = elim (cases_lt max (length b)) [
  | inl long ↦
      let c = cut (take max b) max in
      let rest = uses_all_within max n (drop max b) some (omega (arith, enough, some, long, length-drop max b)) in
      rw (within-some max n b c (rest_cut-long max b long), sum_by-cons (λ (c : Cut). c.used) c (cuts_within (rest_cut max) n (drop max b))) (omega (arith, rest, length-drop max b, long))
  | inr short ↦ elim (cases_lt 0 (length b)) [
    | inl full ↦
        let c = cut (without_line_end b) (length b) in
        let none = within-none max n (drop (length b) b) (rest_cut-none max (drop (length b) b) (omega (arith, length-drop (length b) b))) in
        rw (within-some max n b c (rest_cut-last max b short full), sum_by-cons (λ (c : Cut). c.used) c (cuts_within (rest_cut max) n (drop (length b) b)), none) (omega arith)
    | inr empty ↦ rw (within-none max (suc n) b (rest_cut-none max b (omega (arith, empty)))) (omega (arith, empty))
  ]
]

pub uses_all : (max : ℕ) (b : List ℕ) → 1 ≤ max → used_by (rest_cuts max b) ≡ length b
unfolding cuts
uses_all max b some = uses_all_within max (length b) b some (omega arith)

within_enough : (max n m : ℕ) (b : List ℕ) → 1 ≤ max → length b ≤ n → length b ≤ m → cuts_within (rest_cut max) n b ≡ cuts_within (rest_cut max) m b
within_enough max zero m b some in_n in_m =
    let none = rest_cut-none max b (omega (arith, in_n)) in
    within-none max zero b none ∙ sym (within-none max m b none)
within_enough max (suc n) zero b some in_n in_m =
    let none = rest_cut-none max b (omega (arith, in_m)) in
    within-none max (suc n) b none ∙ sym (within-none max zero b none)
within_enough max (suc n) (suc m) b some in_n in_m = elim (cases_lt max (length b)) [
  | inl long ↦
      let c = cut (take max b) max in
      let is = rest_cut-long max b long in
      let shorter = length-drop max b in
      within-some max n b c is
      ∙ ap (λ (cs : List Cut). c ∷ cs) (within_enough max n m (drop max b) some (omega (arith, in_n, some, long, shorter)) (omega (arith, in_m, some, long, shorter)))
      ∙ sym (within-some max m b c is)
  | inr short ↦ elim (cases_lt 0 (length b)) [
    | inl full ↦
        let c = cut (without_line_end b) (length b) in
        let is = rest_cut-last max b short full in
        let shorter = length-drop (length b) b in
        within-some max n b c is
        ∙ ap (λ (cs : List Cut). c ∷ cs) (within_enough max n m (drop (length b) b) some (omega (arith, shorter)) (omega (arith, shorter)))
        ∙ sym (within-some max m b c is)
    | inr empty ↦
        let none = rest_cut-none max b (omega (arith, empty)) in
        within-none max (suc n) b none ∙ sym (within-none max (suc m) b none)
  ]
]

pub no_tokens : (max : ℕ) (b : List ℕ) → length b ≡ 0 → rest_cuts max b ≡ []
unfolding cuts
no_tokens max b empty = within-none max (length b) b (rest_cut-none max b empty)

begins_with : (max : ℕ) (b : List ℕ) (c : Cut) → 1 ≤ max → rest_cut max b ≡ Some c → 1 ≤ c.used → c.used ≤ length b → BeginsRest max b c
unfolding cuts
begins_with max b c some is used within = record {
  some_used = used;
  within = within;
  cuts_follow =
      within_enough max (length b) (suc (length b)) b some (omega arith) (omega arith)
      ∙ within-some max (length b) b c is
      ∙ ap (λ (cs : List Cut). c ∷ cs) (within_enough max (length b) (length (drop c.used b)) (drop c.used b) some (omega (arith, length-drop c.used b)) (omega arith));
}

pub begins_at_max : (max : ℕ) (b : List ℕ) → 1 ≤ max → max < length b → BeginsRest max b (cut (slice_range b 0 max) max)
begins_at_max max b some long = begins_with max b (cut (slice_range b 0 max) max) some (rest_at_max max b long) some (omega (arith, long))

pub begins_at_end : (max : ℕ) (b : List ℕ) (to : ℕ) → 1 ≤ max → length b ≤ max → 1 ≤ length b → take to b ≡ without_line_end b → BeginsRest max b (cut (slice_range b 0 to) (length b))
begins_at_end max b to some short full text = begins_with max b (cut (slice_range b 0 to) (length b)) some (rest_at_end max b to short full text) full (omega arith)
