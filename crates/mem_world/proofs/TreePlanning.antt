-- Plans: what was played of them follows them.
use Rattle.std.proofs.Common.{◌≡◌, ℕ, suc, ◌+◌, ◌-◌, ◌<◌, ◌≤◌, ◌⊎◌, inl, inr, List, [], ◌∷◌, ◌++◌, length, map, reverse, take, drop, Bool, true, false, cond, not, ◌==◌, nat_le, Some, refl, sym, ap, subst, ◌∙◌, arith, append_assoc, length-append, add-one}
use Rattle.std.specs.Prelude.{if◌then◌else◌, filter, slice_get, All, IsTrue}
use Rattle.std.proofs.lemmas.Bool.Decides.{nat_tests}
use Rattle.std.proofs.lemmas.List.{append-nil, reverse-append, take_at, drop_at}
use Rattle.std.proofs.lemmas.List.Elements.{All-nil, All-cons, All-head, All-tail, All-push, All-append, All-weaker}
use Rattle.outside.specs.World.{Event, create, append, rename, remove, look, miss, unlisted, History}
use Rattle.outside.specs.Lawful.{is_lawful}
use Rattle.outside.specs.Plan.{Plan, inserted, by_number, is_own, MayPass, FollowsPairs, Follows}
use Rattle.mem_world.specs.TreePlan.{Pairs, due_at, not_due_at, played, own_count, Ran, last_call, Behind, own_since}

pub inserted_least : (pair : ℕ × Event) (pairs : Pairs) → All (λ other. pair.0 ≤ other.0) pairs → inserted pair pairs ≡ pair ∷ pairs
inserted_least pair [] least = refl
inserted_least pair (first ∷ rest) least =
    let below : pair.0 ≤ first.0 = All-head (λ other. pair.0 ≤ other.0) first rest least in
    let test : nat_le pair.0 first.0 ≡ true = grind (arith, nat_tests) in
    rw test

All-inserted : (P : ℕ × Event → Type 0) (pair : ℕ × Event) (pairs : Pairs) → P pair → All P pairs → All P (inserted pair pairs)
All-inserted P pair [] here rest = All-cons P pair [] here rest
All-inserted P pair (first ∷ others) here all =
    elim (nat_le pair.0 first.0) as (λ t. All P (cond t (pair ∷ first ∷ others) (first ∷ inserted pair others))) [
      | true ↦ All-cons P pair (first ∷ others) here all
      | false ↦ All-cons P first (inserted pair others) (All-head P first others all) (All-inserted P pair others here (All-tail P first others all))
    ]

pub All-by_number : (P : ℕ × Event → Type 0) (pairs : Pairs) → All P pairs → All P (by_number pairs)
All-by_number P [] all = all
All-by_number P (pair ∷ rest) all = All-inserted P pair (by_number rest) (All-head P pair rest all) (All-by_number P rest (All-tail P pair rest all))

-- a pair that no other comes before is the first by number
pub by_number_due : (front : Pairs) (due : ℕ × Event) (back : Pairs) → All (λ pair. due.0 < pair.0) front → All (λ pair. due.0 ≤ pair.0) back → by_number (front ++ due ∷ back) ≡ due ∷ by_number (front ++ back)
by_number_due [] due back before after = inserted_least due (by_number back) (All-by_number (λ pair. due.0 ≤ pair.0) back after)
by_number_due (first ∷ front) due back before after =
    let above : due.0 < first.0 = All-head (λ pair. due.0 < pair.0) first front before in
    let test : nat_le first.0 due.0 ≡ false = grind (arith, nat_tests) in
    ap (inserted first) (by_number_due front due back (All-tail (λ pair. due.0 < pair.0) first front before) after) ∙ rw test

lawful_not_own : (history : History) (event : Event) → is_lawful history event ≡ true → is_own event ≡ false
lawful_not_own history (create _ _) lawful = refl
lawful_not_own history (append _ _) lawful = refl
lawful_not_own history (rename _ _) lawful = refl
lawful_not_own history (remove _) lawful = refl
lawful_not_own history (look _) lawful = absurd (cc)
lawful_not_own history (miss _) lawful = absurd (cc)
lawful_not_own history (unlisted _) lawful = absurd (cc)

slice_get_at : (front : Pairs) (pair : ℕ × Event) (back : Pairs) → slice_get (front ++ pair ∷ back) (length front) ≡ Some pair
slice_get_at [] pair back = refl
slice_get_at (first ∷ front) pair back = slice_get_at front pair back

drop_suc : (front : Pairs) (pair : ℕ × Event) (back : Pairs) → drop (suc (length front)) (front ++ pair ∷ back) ≡ back
drop_suc [] pair back = refl
drop_suc (first ∷ front) pair back = drop_suc front pair back

drop_past : (front : Pairs) (pair : ℕ × Event) (back : Pairs) → drop (length front + 1) (front ++ pair ∷ back) ≡ back
drop_past front pair back = rw add-one (drop_suc front pair back)

-- The events followed the pairs: so does the rest, if it follows those that are left.
pub ran_follows : (base : History) (pairs : Pairs) (added : List Event) (left : Pairs) (rest : List Event) → Ran base pairs added left → FollowsPairs (added ++ base) (own_count added) left rest → FollowsPairs base 0 pairs (reverse added ++ rest)
ran_follows base pairs [] left rest ran follows = let P : Pairs → Type 0 = λ ps. FollowsPairs base 0 ps rest in subst P ran follows
ran_follows base pairs (event ∷ before) left rest ran follows =
    let earlier = ran.0 in
    let passed = ran.1 in
    let OfLeft : Pairs → Type 0 = λ ps. FollowsPairs (event ∷ (before ++ base)) (own_count (event ∷ before)) ps rest in
    let Step : Type 0 = (IsTrue (is_own event) × FollowsPairs (event ∷ (before ++ base)) (own_count before + 1) (drop passed earlier) rest)
    ⊎ ((due : ℕ) × (slice_get earlier passed ≡ Some (due, event)) × (own_count before ≤ due) × FollowsPairs (event ∷ (before ++ base)) (own_count before) (drop (passed + 1) earlier) rest) in
    let counted : (t : Bool) → is_own event ≡ t → own_count (event ∷ before) ≡ cond t (own_count before + 1) (own_count before) = λ t e. ap (λ b. cond b (own_count before + 1) (own_count before)) e in
    let step : Step = elim ran.4 [
      | inl own ↦ inl (own.0, let Q : ℕ → Type 0 = λ n. FollowsPairs (event ∷ (before ++ base)) n (drop passed earlier) rest in subst Q (counted true own.0) (subst OfLeft own.1 follows))
      | inr used ↦ inr (used.1.0, used.1.1, used.1.2, let Q : ℕ → Type 0 = λ n. FollowsPairs (event ∷ (before ++ base)) n (drop (passed + 1) earlier) rest in subst Q (counted false used.0) (subst OfLeft used.1.3 follows))
    ] in
    let whole = ran_follows base pairs before earlier (event ∷ rest) ran.2 (passed, ran.3, step) in
    let turned : reverse (event ∷ before) ≡ reverse before ++ event ∷ [] = reverse-append (event ∷ []) before in
    let Q : List Event → Type 0 = λ events. FollowsPairs base 0 pairs (events ++ rest) in
    let R : List Event → Type 0 = λ events. FollowsPairs base 0 pairs events in
    subst Q (sym turned) (subst R (sym (append_assoc (reverse before) (event ∷ []) rest)) whole)

-- what was taken and what is left of a history past its base
taken_is : (base : History) (added : List Event) (history : History) (since : ℕ) → history ≡ added ++ base → length base ≡ since → (take (length history - since) history ≡ added) × (drop (length history - since) history ≡ base)
taken_is base added history since is long =
    let count : length added ≡ length history - since = omega (arith, ap length is, length-append added base, long) in
    (ap (take (length history - since)) is ∙ take_at added base (length history - since) count, ap (drop (length history - since)) is ∙ drop_at added base (length history - since) count)

module _ {plan : Plan} {history : History} {calls : ℕ} {waiting : Pairs} where
  pub added_is : (behind : Behind plan history calls waiting) → take (length history - plan.since) history ≡ behind.added
  added_is behind = (taken_is behind.base behind.added history plan.since behind.history_is behind.since_is).0

  pub own_is : (behind : Behind plan history calls waiting) → own_since plan history ≡ own_count behind.added
  own_is behind = ap own_count (added_is behind)

  none_overdue : (behind : Behind plan history calls waiting) → All (λ pair. own_count behind.added ≤ pair.0) waiting
  none_overdue behind =
      All-weaker (λ pair. (calls ≤ pair.0) × (pair.0 < last_call)) (λ pair. own_count behind.added ≤ pair.0)
      (λ pair ahead. let counted : own_count behind.added ≤ calls = behind.early (omega (arith, ahead.0, ahead.1)) in omega (arith, ahead.0, counted))
      waiting behind.ahead

  pub behind_follows : Behind plan history calls waiting → Follows plan history
  behind_follows behind =
      let count = own_count behind.added in
      let parts = taken_is behind.base behind.added history plan.since behind.history_is behind.since_is in
      let skipped_late : All (λ pair. count ≤ pair.0) behind.skipped = All-weaker (MayPass (behind.added ++ behind.base) count) (λ pair. count ≤ pair.0) (λ pair may. may.0) behind.skipped behind.passed in
      let waiting_late = All-by_number (λ pair. count ≤ pair.0) waiting (none_overdue behind) in
      let P : Pairs → Type 0 = λ pairs. All (λ pair. count ≤ pair.0) pairs in
      let all_late : P behind.left = subst P (sym behind.left_is) (All-append (λ pair. count ≤ pair.0) behind.skipped (by_number waiting) skipped_late waiting_late) in
      let whole = ran_follows behind.base (by_number plan.steps) behind.added behind.left [] behind.ran all_late in
      let Q : History → List Event → Type 0 = λ base events. FollowsPairs base 0 (by_number plan.steps) events in
      let from_base = subst (λ h. Q h (reverse (take (length history - plan.since) history))) (sym parts.1)
      (subst (λ es. Q behind.base (reverse es)) (sym parts.0) (subst (λ es. Q behind.base es) (append-nil (reverse behind.added)) whole)) in
      ∣ from_base ∣₁

-- an event of the agent's own comes
pub behind_own : {plan : Plan} {history : History} {calls : ℕ} {waiting : Pairs} → (event : Event) → is_own event ≡ true → (behind : Behind plan history calls waiting) → (calls < last_call → own_count behind.added + 1 ≤ calls) → Behind plan (event ∷ history) calls waiting
behind_own {plan} {history} {calls} {waiting} event own behind early =
    let first : take (length behind.skipped) behind.left ≡ behind.skipped = ap (take (length behind.skipped)) behind.left_is ∙ take_at behind.skipped (by_number waiting) (length behind.skipped) refl in
    let rest : drop (length behind.skipped) behind.left ≡ by_number waiting = ap (drop (length behind.skipped)) behind.left_is ∙ drop_at behind.skipped (by_number waiting) (length behind.skipped) refl in
    let P : Pairs → Type 0 = λ pairs. All (MayPass (behind.added ++ behind.base) (own_count behind.added)) pairs in
    let counted : own_count (event ∷ behind.added) ≡ own_count behind.added + 1 = ap (λ b. cond b (own_count behind.added + 1) (own_count behind.added)) own in
    record {
      base = behind.base;
      added = event ∷ behind.added;
      history_is = ap (λ h. event ∷ h) behind.history_is;
      since_is = behind.since_is;
      left = by_number waiting;
      ran = (behind.left, length behind.skipped, behind.ran, subst P (sym first) behind.passed, inl (own, sym rest));
      skipped = [];
      passed = All-nil (MayPass (event ∷ (behind.added ++ behind.base)) (own_count (event ∷ behind.added)));
      left_is = refl;
      early = λ few. rw counted (early few);
      ahead = behind.ahead;
    }

-- the first step that is due is played, or skipped where it isn't lawful
pub behind_step : {plan : Plan} {history : History} {calls : ℕ} → (front : Pairs) (step : Event) (back : Pairs) → All (λ pair. calls < pair.0) front → All (λ pair. calls ≤ pair.0) back → (behind : Behind plan history calls (front ++ (calls, step) ∷ back)) → calls < last_call → All (λ pair. (calls ≤ pair.0) × (pair.0 < last_call)) (front ++ back) → Behind plan (if is_lawful history step then step ∷ history else history) calls (front ++ back)
behind_step {plan} {history} {calls} front step back before after behind few ahead =
    let now = behind.added ++ behind.base in
    let count = own_count behind.added in
    let pair : ℕ × Event = (calls, step) in
    let left_is : behind.left ≡ behind.skipped ++ pair ∷ by_number (front ++ back) = behind.left_is ∙ ap (λ pairs. behind.skipped ++ pairs) (by_number_due front pair back before after) in
    let early = behind.early few in
    let New : Bool → Type 0 = λ t. Behind plan (if t then step ∷ history else history) calls (front ++ back) in
    let same : is_lawful now step ≡ is_lawful history step = ap (λ h. is_lawful h step) (sym behind.history_is) in
    let yes : is_lawful history step ≡ true → New true = λ lawful.
    let other : is_own step ≡ false = lawful_not_own history step lawful in
    let first : take (length behind.skipped) behind.left ≡ behind.skipped = ap (take (length behind.skipped)) left_is ∙ take_at behind.skipped (pair ∷ by_number (front ++ back)) (length behind.skipped) refl in
    let rest : drop (length behind.skipped + 1) behind.left ≡ by_number (front ++ back) = ap (drop (length behind.skipped + 1)) left_is ∙ drop_past behind.skipped pair (by_number (front ++ back)) in
    let used : slice_get behind.left (length behind.skipped) ≡ Some pair = ap (λ pairs. slice_get pairs (length behind.skipped)) left_is ∙ slice_get_at behind.skipped pair (by_number (front ++ back)) in
    let P : Pairs → Type 0 = λ pairs. All (MayPass now count) pairs in
    let counted : own_count (step ∷ behind.added) ≡ count = ap (λ b. cond b (count + 1) count) other in
    record {
      base = behind.base;
      added = step ∷ behind.added;
      history_is = ap (λ h. step ∷ h) behind.history_is;
      since_is = behind.since_is;
      left = by_number (front ++ back);
      ran = (behind.left, length behind.skipped, behind.ran, subst P (sym first) behind.passed, inr (other, (calls, used, early, sym rest)));
      skipped = [];
      passed = All-nil (MayPass (step ∷ now) (own_count (step ∷ behind.added)));
      left_is = refl;
      early = λ _. rw counted early;
      ahead = ahead;
    } in
    let no : is_lawful history step ≡ false → New false = λ unlawful.
    record {
      base = behind.base;
      added = behind.added;
      history_is = behind.history_is;
      since_is = behind.since_is;
      left = behind.left;
      ran = behind.ran;
      skipped = behind.skipped ++ pair ∷ [];
      passed = All-push (MayPass now count) behind.skipped pair behind.passed (early, same ∙ unlawful);
      left_is = left_is ∙ sym (append_assoc behind.skipped (pair ∷ []) (by_number (front ++ back)));
      early = behind.early;
      ahead = ahead;
    } in
    let R : Bool → Type 0 = λ t. is_lawful history step ≡ t → New t in
    let all : R (is_lawful history step) = elim (is_lawful history step) as R [ true ↦ yes | false ↦ no ] in
    all refl

abbrev Ahead : ℕ → ℕ × Event → Type 0
Ahead calls pair = (calls ≤ pair.0) × (pair.0 < last_call)

ahead_weaker : (calls : ℕ) (pairs : Pairs) → All (Ahead calls) pairs → All (λ pair. calls ≤ pair.0) pairs
ahead_weaker calls pairs all = All-weaker (Ahead calls) (λ pair. calls ≤ pair.0) (λ pair ahead. ahead.0) pairs all

ahead_front : (calls : ℕ) (xs ys : Pairs) → All (Ahead calls) (xs ++ ys) → All (Ahead calls) xs
ahead_front calls [] ys all = All-nil (Ahead calls)
ahead_front calls (x ∷ xs) ys all = All-cons (Ahead calls) x xs (All-head (Ahead calls) x (xs ++ ys) all) (ahead_front calls xs ys (All-tail (Ahead calls) x (xs ++ ys) all))

ahead_back : (calls : ℕ) (xs ys : Pairs) → All (Ahead calls) (xs ++ ys) → All (Ahead calls) ys
ahead_back calls [] ys all = all
ahead_back calls (x ∷ xs) ys all = ahead_back calls xs ys (All-tail (Ahead calls) x (xs ++ ys) all)

-- all that is due is played in turn
pub behind_played : {plan : Plan} {calls : ℕ} → (rest front : Pairs) (history : History) → All (λ pair. calls < pair.0) front → Behind plan history calls (front ++ rest) → Behind plan (played history (due_at calls rest)) calls (front ++ not_due_at calls rest)
behind_played [] front history before behind = behind
behind_played {plan} {calls} (pair ∷ rest) front history before behind =
    let number = pair.0 in
    let step = pair.1 in
    let all = behind.ahead in
    let tail : All (Ahead calls) (pair ∷ rest) = ahead_back calls front (pair ∷ rest) all in
    let here : Ahead calls pair = All-head (Ahead calls) pair rest tail in
    let others : All (Ahead calls) rest = All-tail (Ahead calls) pair rest tail in
    let fronts : All (Ahead calls) front = ahead_front calls front (pair ∷ rest) all in
    let Goal : Bool → Type 0 = λ t. Behind plan (played history (map (λ p. p.1) (cond t (pair ∷ filter (λ p. p.0 == calls) rest) (filter (λ p. p.0 == calls) rest)))) calls (front ++ cond (not t) (pair ∷ not_due_at calls rest) (not_due_at calls rest)) in
    let yes : (number == calls) ≡ true → Goal true = λ same.
    let number_is : number ≡ calls = grind (arith, nat_tests) in
    let pair_is : ◌≡◌ {A = ℕ × Event} pair (calls, step) = ap (λ n. (n, step)) number_is in
    let P : ℕ × Event → Type 0 = λ p. Behind plan history calls (front ++ p ∷ rest) in
    let Q : ℕ → Type 0 = λ n. n < last_call in
    behind_played rest front (if is_lawful history step then step ∷ history else history) before (behind_step front step rest before (ahead_weaker calls rest others) (subst P pair_is behind) (subst Q number_is here.1) (All-append (Ahead calls) front rest fronts others)) in
    let no : (number == calls) ≡ false → Goal false = λ apart.
    let above : calls < number = grind (arith, nat_tests, here.0) in
    let P : Pairs → Type 0 = λ pairs. Behind plan history calls pairs in
    let R : Pairs → Type 0 = λ pairs. Behind plan (played history (due_at calls rest)) calls pairs in
    subst R (append_assoc front (pair ∷ []) (not_due_at calls rest)) (behind_played rest (front ++ pair ∷ []) history (All-push (λ p. calls < p.0) front pair before above) (subst P (sym (append_assoc front (pair ∷ []) rest)) behind)) in
    let S : Bool → Type 0 = λ t. (number == calls) ≡ t → Goal t in
    let both : S (number == calls) = elim (number == calls) as S [ true ↦ yes | false ↦ no ] in
    both refl

-- a plan is set
pub behind_new : (history : History) (waiting : Pairs) → All (λ pair. pair.0 < last_call) waiting → Behind (record { steps = waiting; since = length history }) history 0 waiting
behind_new history waiting small = record {
  base = history;
  added = [];
  history_is = refl;
  since_is = refl;
  left = by_number waiting;
  ran = refl;
  skipped = [];
  passed = All-nil (MayPass history 0);
  left_is = refl;
  early = λ _. omega arith;
  ahead = All-weaker (λ pair. pair.0 < last_call) (Ahead 0) (λ pair less. (omega arith, less)) waiting small;
}
