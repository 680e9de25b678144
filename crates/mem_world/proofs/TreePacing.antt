-- A world with its plan, call by call.
use Rattle.std.proofs.Common.{◌≡◌, ℕ, ◌+◌, ◌-◌, ◌<◌, ◌≤◌, min, List, [], ◌∷◌, ◌++◌, length, map, Bool, true, false, cond, not, ◌==◌, refl, sym, ap, subst, ◌∙◌, arith, eq-eqb, length-append}
use Rattle.std.specs.Prelude.{All, filter, is_some}
use Rattle.std.proofs.lemmas.Bool.Decides.{nat_tests}
use Rattle.std.proofs.lemmas.List.{append-nil, length-map, length_push, map-append}
use Rattle.std.proofs.lemmas.List.Elements.{All-nil, All-cons, All-head, All-tail, All-weaker, All-map, All-push}
use Rattle.outside.specs.World.{Event, History}
use Rattle.outside.specs.Plan.{Plan, is_own, Follows}
use Rattle.mem_world.specs.declared.tree.events.Scheduled.{Scheduled}
use Rattle.mem_world.specs.declared.tree.events.Seen.{Seen}
use Rattle.mem_world.specs.declared.tree.events.Seen.TheVariants.{Look, Miss, Unlisted}
use Rattle.mem_world.specs.TreePlan.{Pairs, due_at, not_due_at, left_after, played, wanted, own_count, last_call, Behind, own_since}
use Rattle.mem_world.specs.TreePlanned.{PlannedWorld, with_plan, begun}
use Rattle.mem_world.specs.TreePlannedInside.{IsPaced}
use Rattle.mem_world.specs.TreeRoom.{StoredWorld, empty_world, room_in}
use Rattle.mem_world.specs.TreeSteps.{pair_of, all_pairs, waiting_of, waiting_pairs}
use Rattle.mem_world.specs.TreeEvents.{event_seen}
use Rattle.mem_world.specs.WorldSteps.{added_by, event_of}
use Rattle.mem_world.proofs.TreeScheduling.{waiting-append, wanted-append}
use Rattle.mem_world.proofs.TreePlanning.{behind_new, behind_own, behind_played, behind_follows, own_is}

-- a plan is set
pub paced_set : (world : StoredWorld) (steps : List Scheduled) → all_pairs steps ≡ waiting_pairs steps → All (λ pair. pair.0 < last_call) (waiting_pairs steps) → length (waiting_pairs steps) ≤ world.room → ((file : ℕ) → wanted (waiting_pairs steps) file ≤ room_in world.rooms file) → IsPaced world steps 0 (length world.history)
paced_set world steps all small room rooms =
    let P : Pairs → Type 0 = λ pairs. Behind (record { steps = pairs; since = length world.history }) world.history 0 (waiting_pairs steps) in
    record {
      counted = omega arith;
      room = room;
      rooms = rooms;
      behind = subst P (sym all) (behind_new world.history (waiting_pairs steps) small);
    }

pub paced_new : (world : StoredWorld) (steps : List Scheduled) → world ≡ empty_world → steps ≡ [] → IsPaced world steps 0 0
paced_new world steps empty none =
    let P : StoredWorld → List Scheduled → Type 0 = λ w s. IsPaced w s 0 0 in
    subst (λ w. P w steps) (sym empty) (subst (λ s. P empty_world s) (sym none) (paced_set empty_world [] refl (All-nil (λ pair. pair.0 < last_call)) (omega arith) (λ file. omega arith)))

module _ {world : StoredWorld} {steps : List Scheduled} {calls since : ℕ} where
  pub paced_follows : IsPaced world steps calls since → Follows (record { steps = all_pairs steps; since = since }) world.history
  paced_follows paced = behind_follows paced.behind

  pub paced_within : IsPaced world steps calls since → since ≤ length world.history
  paced_within paced = omega (arith, paced.behind.since_is, ap length paced.behind.history_is, length-append paced.behind.added paced.behind.base)

  pub paced_same : (new : StoredWorld) → IsPaced world steps calls since → new.history ≡ world.history → new.room ≡ world.room → new.rooms ≡ world.rooms → IsPaced new steps calls since
  paced_same new paced history room rooms =
      let P : History → Type 0 = λ h. Behind (record { steps = all_pairs steps; since = since }) h calls (waiting_pairs steps) in
      record {
        counted = paced.counted;
        room = omega (arith, paced.room, room);
        rooms = λ file. omega (arith, paced.rooms file, ap (λ r. room_in r file) rooms);
        behind = subst P (sym history) paced.behind;
      }

  pub paced_own : (new : StoredWorld) (event : Event) → is_own event ≡ true → IsPaced world steps calls since → (calls < last_call → own_since (record { steps = all_pairs steps; since = since }) world.history < calls) → new.history ≡ event ∷ world.history → new.room ≡ world.room → new.rooms ≡ world.rooms → IsPaced new steps calls since
  paced_own new event own paced early history room rooms =
      let P : History → Type 0 = λ h. Behind (record { steps = all_pairs steps; since = since }) h calls (waiting_pairs steps) in
      record {
        counted = paced.counted;
        room = omega (arith, paced.room, room);
        rooms = λ file. omega (arith, paced.rooms file, ap (λ r. room_in r file) rooms);
        behind = subst P (sym history) (behind_own event own paced.behind (λ few. omega (arith, early few, own_is paced.behind)));
      }

pub wanted_left : (calls : ℕ) (pairs : Pairs) (file : ℕ) → wanted (left_after calls pairs) file ≡ wanted pairs file
wanted_left calls [] file = refl
wanted_left calls (pair ∷ pairs) file = ap (λ n. length (added_by pair.1 file) + n) (wanted_left calls pairs file)

pub left_small : (calls : ℕ) (pairs : Pairs) → All (λ pair. (calls ≤ pair.0) × (pair.0 < last_call)) pairs → All (λ pair. pair.0 < last_call) (left_after calls pairs)
left_small calls pairs ahead =
    All-map (λ pair. pair.0 < last_call) (λ (pair : ℕ × Event). (pair.0 - calls, pair.1)) pairs
    (All-weaker (λ pair. (calls ≤ pair.0) × (pair.0 < last_call)) (λ pair. pair.0 - calls < last_call) (λ pair a. omega (arith, a.1)) pairs ahead)

pub left_none : (pairs : Pairs) → left_after 0 pairs ≡ pairs
left_none [] = refl
left_none (pair ∷ pairs) =
    let same : pair.0 - 0 ≡ pair.0 = omega arith in
    ap (λ n. (n, pair.1) ∷ left_after 0 pairs) same ∙ ap (λ ps. pair ∷ ps) (left_none pairs)

pub set_is : (history new_history : History) (pairs all waiting : Pairs) (since : ℕ) → new_history ≡ history → pairs ≡ waiting → all ≡ waiting → since ≡ length new_history → (let world : PlannedWorld = record { history = new_history; waiting = left_after 0 pairs; plan = record { steps = all; since = since }; calls = 0 } in world) ≡ with_plan history waiting
set_is history new_history pairs all waiting since same waits planned long =
    let first : left_after 0 pairs ≡ waiting = left_none pairs ∙ waits in
    let long_now : since ≡ length history = long ∙ ap length same in
    cc

same_test : (number calls : ℕ) → calls ≤ number → (number == calls) ≡ ((number - calls) == 0)
same_test number calls within =
    let P : Bool → Type 0 = λ t. (number == calls) ≡ t → t ≡ ((number - calls) == 0) in
    let yes : P true = λ e. let same : number ≡ calls = grind (arith, nat_tests) in let none : number - calls ≡ 0 = omega (arith, same) in sym (eq-eqb (number - calls) 0 none) in
    let no : P false = λ e. let apart : calls < number = grind (arith, nat_tests) in let some : 0 < number - calls = omega (arith, apart) in grind (arith, nat_tests) in
    let all : P (number == calls) = elim (number == calls) as P [ true ↦ yes | false ↦ no ] in
    all refl

-- the pairs whose number is so large are left, and have one call fewer before them
pub left_more : (calls : ℕ) (pairs : Pairs) → All (λ pair. calls ≤ pair.0) pairs → left_after (calls + 1) (not_due_at calls pairs) ≡ left_after 1 (not_due_at 0 (left_after calls pairs))
left_more calls [] all = refl
left_more calls (pair ∷ pairs) all =
    let here : calls ≤ pair.0 = All-head (λ p. calls ≤ p.0) pair pairs all in
    let rest = left_more calls pairs (All-tail (λ p. calls ≤ p.0) pair pairs all) in
    let same : (pair.0 == calls) ≡ ((pair.0 - calls) == 0) = same_test pair.0 calls here in
    let less : pair.0 - (calls + 1) ≡ pair.0 - calls - 1 = omega arith in
    let P : Bool → Bool → Type 0 = λ s t. left_after (calls + 1) (cond (not s) (pair ∷ not_due_at calls pairs) (not_due_at calls pairs)) ≡ left_after 1 (cond (not t) ((pair.0 - calls, pair.1) ∷ not_due_at 0 (left_after calls pairs)) (not_due_at 0 (left_after calls pairs))) in
    let both : (t : Bool) → P t t = λ t. elim t as (λ b. P b b) [ true ↦ rest | false ↦ ap (λ n. (n, pair.1) ∷ left_after (calls + 1) (not_due_at calls pairs)) less ∙ ap (λ ps. (pair.0 - calls - 1, pair.1) ∷ ps) rest ] in
    subst (λ t. P (pair.0 == calls) t) same (both (pair.0 == calls))

pub due_same : (calls : ℕ) (pairs : Pairs) → All (λ pair. calls ≤ pair.0) pairs → due_at calls pairs ≡ due_at 0 (left_after calls pairs)
due_same calls [] all = refl
due_same calls (pair ∷ pairs) all =
    let here : calls ≤ pair.0 = All-head (λ p. calls ≤ p.0) pair pairs all in
    let rest = due_same calls pairs (All-tail (λ p. calls ≤ p.0) pair pairs all) in
    let same : (pair.0 == calls) ≡ ((pair.0 - calls) == 0) = same_test pair.0 calls here in
    let P : Bool → Bool → Type 0 = λ s t. map (λ (p : ℕ × Event). p.1) (cond s (pair ∷ filter (λ p. p.0 == calls) pairs) (filter (λ p. p.0 == calls) pairs)) ≡ map (λ (p : ℕ × Event). p.1) (cond t ((pair.0 - calls, pair.1) ∷ filter (λ p. p.0 == 0) (left_after calls pairs)) (filter (λ p. p.0 == 0) (left_after calls pairs))) in
    let both : (t : Bool) → P t t = λ t. elim t as (λ b. P b b) [ true ↦ ap (λ es. pair.1 ∷ es) rest | false ↦ rest ] in
    subst (λ t. P (pair.0 == calls) t) same (both (pair.0 == calls))

not_due_ahead : (calls : ℕ) (pairs : Pairs) → All (λ pair. (calls ≤ pair.0) × (pair.0 < last_call)) pairs → All (λ pair. (calls + 1 ≤ pair.0) × (pair.0 < last_call)) (not_due_at calls pairs)
not_due_ahead calls [] all = All-nil (λ pair. (calls + 1 ≤ pair.0) × (pair.0 < last_call))
not_due_ahead calls (pair ∷ pairs) all =
    let Old : ℕ × Event → Type 0 = λ p. (calls ≤ p.0) × (p.0 < last_call) in
    let New : ℕ × Event → Type 0 = λ p. (calls + 1 ≤ p.0) × (p.0 < last_call) in
    let here : Old pair = All-head Old pair pairs all in
    let rest = not_due_ahead calls pairs (All-tail Old pair pairs all) in
    let P : Bool → Type 0 = λ t. (pair.0 == calls) ≡ t → All New (cond (not t) (pair ∷ not_due_at calls pairs) (not_due_at calls pairs)) in
    let no : P false = λ e. let above : calls + 1 ≤ pair.0 = grind (arith, nat_tests, here.0) in All-cons New pair (not_due_at calls pairs) (above, here.1) rest in
    let both : P (pair.0 == calls) = elim (pair.0 == calls) as P [ true ↦ λ _. rest | false ↦ no ] in
    both refl

-- one call more
behind_counted : {plan : Plan} {history : History} {calls : ℕ} {waiting : Pairs} → Behind plan history calls waiting → (new : ℕ) → (new < last_call → calls < last_call) → calls ≤ new → All (λ pair. (new ≤ pair.0) × (pair.0 < last_call)) waiting → Behind plan history new waiting
behind_counted behind new few more ahead = record {
  base = behind.base;
  added = behind.added;
  history_is = behind.history_is;
  since_is = behind.since_is;
  left = behind.left;
  ran = behind.ran;
  skipped = behind.skipped;
  passed = behind.passed;
  left_is = behind.left_is;
  early = λ below. let so_far = behind.early (few below) in omega (arith, so_far, more);
  ahead = ahead;
}

-- at the last call nothing waits
counted_left : (calls new_calls : ℕ) (pairs : Pairs) → new_calls ≡ min (calls + 1) last_call → All (λ pair. (calls ≤ pair.0) × (pair.0 < last_call)) pairs → left_after new_calls (not_due_at calls pairs) ≡ left_after (calls + 1) (not_due_at calls pairs)
counted_left calls new_calls [] count all = refl
counted_left calls new_calls (pair ∷ pairs) count all =
    let Old : ℕ × Event → Type 0 = λ p. (calls ≤ p.0) × (p.0 < last_call) in
    let here : Old pair = All-head Old pair pairs all in
    let same : new_calls ≡ calls + 1 = omega (arith, here.0, here.1, count) in
    ap (λ n. left_after n (not_due_at calls (pair ∷ pairs))) same

-- what a call that begins leaves
pub record Begins (old_world new_world : StoredWorld) (old_steps new_steps : List Scheduled) (old_calls new_calls since : ℕ) : Type 0 where
  pub paced : IsPaced new_world new_steps new_calls since
  pub counted : new_calls < last_call → own_since (record { steps = all_pairs new_steps; since = since }) new_world.history < new_calls
  pub history : new_world.history ≡ played old_world.history (due_at 0 (left_after old_calls (waiting_pairs old_steps)))
  pub waiting : left_after new_calls (waiting_pairs new_steps) ≡ left_after 1 (not_due_at 0 (left_after old_calls (waiting_pairs old_steps)))

pub begins : (old new : StoredWorld) (old_steps steps : List Scheduled) (calls new_calls since : ℕ) → IsPaced old old_steps calls since
    → new_calls ≡ min (calls + 1) last_call
    → new.history ≡ played old.history (due_at calls (waiting_pairs old_steps))
    → waiting_pairs steps ≡ not_due_at calls (waiting_pairs old_steps)
    → all_pairs steps ≡ all_pairs old_steps
    → length (waiting_pairs steps) ≤ new.room
    → ((file : ℕ) → wanted (waiting_pairs steps) file ≤ room_in new.rooms file)
    → Begins old new old_steps steps calls new_calls since
begins old new old_steps steps calls new_calls since paced count history waiting all room rooms =
    let before = waiting_pairs old_steps in
    let plan : Plan = record { steps = all_pairs old_steps; since = since } in
    let ahead = paced.behind.ahead in
    let at_least : All (λ pair. calls ≤ pair.0) before = All-weaker (λ pair. (calls ≤ pair.0) × (pair.0 < last_call)) (λ pair. calls ≤ pair.0) (λ pair a. a.0) before ahead in
    let went = behind_played before [] old.history (All-nil (λ pair. calls < pair.0)) paced.behind in
    let more : calls ≤ new_calls = omega (arith, count, paced.counted) in
    let few : new_calls < last_call → calls < last_call = λ below. omega (arith, count, below, paced.counted) in
    let now_ahead : All (λ pair. (new_calls ≤ pair.0) × (pair.0 < last_call)) (not_due_at calls before) =
    All-weaker (λ pair. (calls + 1 ≤ pair.0) × (pair.0 < last_call)) (λ pair. (new_calls ≤ pair.0) × (pair.0 < last_call)) (λ pair a. (omega (arith, count, a.0), a.1)) (not_due_at calls before) (not_due_ahead calls before ahead) in
    let now = behind_counted went new_calls few more now_ahead in
    let P : Pairs → History → Pairs → Type 0 = λ steps history waiting. Behind (record { steps = steps; since = since }) history new_calls waiting in
    let told = subst (λ a. P a new.history (waiting_pairs steps)) (sym all) (subst (λ h. P (all_pairs old_steps) h (waiting_pairs steps)) (sym history) (subst (λ w. P (all_pairs old_steps) (played old.history (due_at calls before)) w) (sym waiting) now)) in
    let own_then : own_since (record { steps = all_pairs steps; since = since }) new.history ≡ own_count went.added =
    ap (λ h. own_since (record { steps = all_pairs steps; since = since }) h) history ∙ ap (λ a. own_since (record { steps = a; since = since }) (played old.history (due_at calls before))) all ∙ own_is went in
    record {
      paced = record { counted = omega (arith, count); room = room; rooms = rooms; behind = told };
      counted = λ below. let early = went.early (few below) in omega (arith, own_then, early, count, few below, below);
      history = history ∙ ap (played old.history) (due_same calls before at_least);
      waiting =
          ap (left_after new_calls) waiting ∙ counted_left calls new_calls before count ahead ∙ left_more calls before at_least;
    }

-- the steps that wait are counted anew
pub paced_renewed : (old new : StoredWorld) (old_steps steps : List Scheduled) (calls since : ℕ) → IsPaced old old_steps calls since → waiting_pairs steps ≡ left_after calls (waiting_pairs old_steps) → all_pairs steps ≡ left_after calls (waiting_pairs old_steps) → old.room ≤ new.room → ((file : ℕ) → room_in old.rooms file ≤ room_in new.rooms file) → (end : ℕ) → end ≡ length new.history → IsPaced new steps 0 end
paced_renewed old new old_steps steps calls since paced waiting all room rooms end end_is =
    let P : Pairs → Type 0 = λ pairs. All (λ pair. pair.0 < last_call) pairs in
    let Q : ℕ → Type 0 = λ n. IsPaced new steps 0 n in
    let long : length (waiting_pairs steps) ≡ length (waiting_pairs old_steps) = ap length waiting ∙ length-map (waiting_pairs old_steps) (λ (pair : ℕ × Event). (pair.0 - calls, pair.1)) in
    subst Q (sym end_is) (paced_set new steps (all ∙ sym waiting) (subst P (sym waiting) (left_small calls (waiting_pairs old_steps) paced.behind.ahead))
    (omega (arith, long, paced.room, room))
    (λ file. let many = ap (λ pairs. wanted pairs file) waiting ∙ wanted_left calls (waiting_pairs old_steps) file in omega (arith, many, paced.rooms file, rooms file)))

pub pushed_waiting : (steps : List Scheduled) (step : Scheduled) → is_some step.ready ≡ true → waiting_pairs (steps ++ step ∷ []) ≡ waiting_pairs steps ++ pair_of step ∷ []
pushed_waiting steps step ready =
    let one : waiting_of step ≡ pair_of step ∷ [] = rw ready in
    waiting-append steps (step ∷ []) ∙ ap (λ pairs. waiting_pairs steps ++ pairs) (append-nil (waiting_of step) ∙ one)

pub pushed_all : (steps : List Scheduled) (step : Scheduled) → all_pairs (steps ++ step ∷ []) ≡ all_pairs steps ++ pair_of step ∷ []
pushed_all steps step = map-append pair_of steps (step ∷ [])

pub paced_pushed : (old new : StoredWorld) (old_steps steps pushed : List Scheduled) (step : Scheduled) (calls since : ℕ) → IsPaced old old_steps calls since → waiting_pairs steps ≡ left_after calls (waiting_pairs old_steps) → all_pairs steps ≡ left_after calls (waiting_pairs old_steps) → pushed ≡ steps ++ step ∷ [] → is_some step.ready ≡ true → step.number < last_call → new.room ≡ old.room + 1 → ((file : ℕ) → room_in new.rooms file ≡ room_in old.rooms file + length (added_by (event_of step.step) file)) → (end : ℕ) → end ≡ length new.history → IsPaced new pushed 0 end
paced_pushed old new old_steps steps pushed step calls since paced waiting all pushed_is ready small room rooms end end_is =
    let P : Pairs → Type 0 = λ pairs. All (λ pair. pair.0 < last_call) pairs in
    let Q : ℕ → Type 0 = λ n. IsPaced new pushed 0 n in
    let now : waiting_pairs pushed ≡ waiting_pairs steps ++ pair_of step ∷ [] = ap waiting_pairs pushed_is ∙ pushed_waiting steps step ready in
    let now_all : all_pairs pushed ≡ all_pairs steps ++ pair_of step ∷ [] = ap all_pairs pushed_is ∙ pushed_all steps step in
    let before_small : P (waiting_pairs steps) = subst P (sym waiting) (left_small calls (waiting_pairs old_steps) paced.behind.ahead) in
    let long = ap length waiting ∙ length-map (waiting_pairs old_steps) (λ (pair : ℕ × Event). (pair.0 - calls, pair.1)) in
    let long_now = ap length now ∙ length_push (waiting_pairs steps) (pair_of step) in
    subst Q (sym end_is) (paced_set new pushed (now_all ∙ ap (λ pairs. pairs ++ pair_of step ∷ []) (all ∙ sym waiting) ∙ sym now)
    (subst P (sym now) (All-push (λ pair. pair.0 < last_call) (waiting_pairs steps) (pair_of step) before_small small))
    (omega (arith, long, long_now, paced.room, room))
    (λ file.
    let many = ap (λ pairs. wanted pairs file) waiting ∙ wanted_left calls (waiting_pairs old_steps) file in
    let many_now = ap (λ pairs. wanted pairs file) now ∙ wanted-append (waiting_pairs steps) (pair_of step ∷ []) file in
    omega (arith, many, many_now, paced.rooms file, rooms file)))

pub seen_own : (seen : Seen) → is_own (event_seen seen) ≡ true
seen_own (Look _) = refl
seen_own (Miss _) = refl
seen_own (Unlisted _) = refl

pub begun_is : (history new_history : History) (waiting new_waiting all new_all : Pairs) (since calls new_calls : ℕ) → new_history ≡ played history (due_at 0 waiting) → new_waiting ≡ left_after 1 (not_due_at 0 waiting) → new_all ≡ all → new_calls ≡ min (calls + 1) last_call
    → (let new : PlannedWorld = record { history = new_history; waiting = new_waiting; plan = record { steps = new_all; since = since }; calls = new_calls } in new) ≡ begun (record { history = history; waiting = waiting; plan = record { steps = all; since = since }; calls = calls })
begun_is history new_history waiting new_waiting all new_all since calls new_calls went waits planned counted = cc
