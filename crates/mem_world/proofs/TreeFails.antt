-- Calls that are set to fail, call by call.
use Rattle.std.proofs.Common.{◌≡◌, ℕ, ◌+◌, ◌-◌, ◌<◌, ◌≤◌, List, [], ◌∷◌, ◌++◌, length, get_or, set, take, drop, Bool, true, false, cond, not, ◌==◌, ◌||◌, refl, sym, ap, ◌∙◌, arith}
use Rattle.std.proofs.lemmas.Bool.Decides.{nat_tests}
use Rattle.std.proofs.lemmas.List.Sums.{sum_by-cons}
use Rattle.std.proofs.lemmas.List.{map-append, drop_more, take_more, take_more_set, drop-set-lt, length-set}
use Rattle.mem_world.specs.TreeFailures.{still, is_reached, one_later}

-- so far the numbers before the place were counted down
pub record GoingDown (first calls : List ℕ) (place : ℕ) : Type 0 where
  pub front : take place calls ≡ one_later (take place first)
  pub rest : drop place calls ≡ drop place first
  pub long : length calls ≡ length first

heads : {x y : ℕ} {xs ys : List ℕ} → x ∷ xs ≡ y ∷ ys → x ≡ y
heads same = cc

tails : {x y : ℕ} {xs ys : List ℕ} → x ∷ xs ≡ y ∷ ys → xs ≡ ys
tails same = cc

pub going_more : (first calls : List ℕ) (place new : ℕ) → GoingDown first calls place → place < length calls → new ≡ get_or calls place 0 - 1 → GoingDown first (set calls place new) (place + 1)
going_more first calls place new going within less =
    let there : place < length first = omega (arith, going.long) in
    let next : get_or calls place 0 ∷ drop (place + 1) calls ≡ get_or first place 0 ∷ drop (place + 1) first = sym (drop_more calls place 0 within) ∙ going.rest ∙ drop_more first place 0 there in
    record {
      front =
          take_more_set calls place new within
          ∙ ap (λ ns. ns ++ new ∷ []) going.front
          ∙ ap (λ n. one_later (take place first) ++ n ∷ []) (less ∙ ap (λ n. n - 1) (heads next))
          ∙ sym (map-append (λ n. n - 1) (take place first) (get_or first place 0 ∷ []))
          ∙ ap one_later (sym (take_more first place 0 there));
      rest = drop-set-lt (place + 1) calls place new (omega arith) ∙ tails next;
      long = length-set calls place new ∙ going.long;
    }

count_cons : (call : ℕ) (calls : List ℕ) → still (call ∷ calls) ≡ cond (not (call == 0)) 1 0 + still calls
count_cons call calls = sum_by-cons (λ (n : ℕ). cond (not (n == 0)) 1 0) call calls

step_down : (call rest later : ℕ) → later ≤ rest → cond (not ((call - 1) == 0)) 1 0 + later ≤ cond (not (call == 0)) 1 0 + rest
step_down call rest later less = grind (arith, nat_tests)

step_reached : (call rest later : ℕ) → (call == 1) ≡ true → later ≤ rest → cond (not ((call - 1) == 0)) 1 0 + later + 1 ≤ cond (not (call == 0)) 1 0 + rest
step_reached call rest later one less = grind (arith, nat_tests)

step_later : (call rest later : ℕ) → later + 1 ≤ rest → cond (not ((call - 1) == 0)) 1 0 + later + 1 ≤ cond (not (call == 0)) 1 0 + rest
step_later call rest later less = grind (arith, nat_tests)

pub still_later : (calls : List ℕ) → still (one_later calls) ≤ still calls
still_later [] = omega arith
still_later (call ∷ calls) =
    let first = count_cons (call - 1) (one_later calls) in
    let second = count_cons call calls in
    let step = step_down call (still calls) (still (one_later calls)) (still_later calls) in
    omega (arith, first, second, step)

pub still_reached : (calls : List ℕ) → is_reached calls ≡ true → still (one_later calls) + 1 ≤ still calls
still_reached [] reached = absurd (cc)
still_reached (call ∷ calls) reached =
    let first = count_cons (call - 1) (one_later calls) in
    let second = count_cons call calls in
    let P : Bool → Type 0 = λ t. (call == 1) ≡ t → (t || is_reached calls) ≡ true → cond (not ((call - 1) == 0)) 1 0 + still (one_later calls) + 1 ≤ cond (not (call == 0)) 1 0 + still calls in
    let all : P (call == 1) = elim (call == 1) as P [
      | true ↦ λ one _. step_reached call (still calls) (still (one_later calls)) one (still_later calls)
      | false ↦ λ _ rest. step_later call (still calls) (still (one_later calls)) (still_reached calls rest)
    ] in
    let step = all refl reached in
    omega (arith, first, second, step)
