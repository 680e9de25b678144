-- What holds of the first place that passes a test.
use Rattle.std.proofs.Common.{◌≡◌, ℕ, ◌<◌, ◌≤◌, Bool, true, false, not, get_or, sym, ap, ◌∙◌, arith, zero-add}
use Rattle.std.proofs.lemmas.List.FromFn.{length-range_with_len, get_or-range_with_len}
use Rattle.std.proofs.lemmas.List.Sums.{position_or_len_is, fails_before_first, passes_at_first, prefix_len-le-length}
use Rattle.std.specs.List.{range_with_len}
use Rattle.multiline.specs.FirstPlace.{first_place}

module _ (test : ℕ → Bool) (n : ℕ) where
  at : (k : ℕ) → k < n → get_or (range_with_len 0 n) k 0 ≡ k
  at k below = get_or-range_with_len 0 n k 0 below ∙ zero-add k

  pub first_place-le : first_place test n ≤ n
  unfolding first_place
  first_place-le = omega (arith, length-range_with_len 0 n, prefix_len-le-length (λ k. not (test k)) (range_with_len 0 n))

  pub first_place-fails : (k : ℕ) → k < first_place test n → test k ≡ false
  unfolding first_place
  first_place-fails k below =
      let inside : k < n = omega (arith, length-range_with_len 0 n, prefix_len-le-length (λ k. not (test k)) (range_with_len 0 n)) in
      ap test (sym (at k inside)) ∙ fails_before_first test (range_with_len 0 n) k 0 below

  pub first_place-passes : first_place test n < n → test (first_place test n) ≡ true
  unfolding first_place
  first_place-passes below =
      ap test (sym (at (first_place test n) below)) ∙ passes_at_first test (range_with_len 0 n) 0 (omega (arith, length-range_with_len 0 n))

  pub first_place_is : (k : ℕ) → k ≤ n → ((j : ℕ) → j < k → test j ≡ false) → (k < n → test k ≡ true) → first_place test n ≡ k
  unfolding first_place
  first_place_is k within fails passes =
      position_or_len_is test (range_with_len 0 n) k 0 (omega (arith, length-range_with_len 0 n))
      (λ j below. ap test (at j (omega arith)) ∙ fails j below)
      (λ below. let inside : k < n = omega (arith, length-range_with_len 0 n) in ap test (at k inside) ∙ passes inside)
