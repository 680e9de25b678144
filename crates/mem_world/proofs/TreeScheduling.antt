-- The steps that wait, one after another.
use Rattle.std.proofs.Common.{◌≡◌, ℕ, ◌+◌, ◌-◌, ◌<◌, ◌≤◌, List, [], ◌∷◌, ◌++◌, length, map, get_or, set, take, drop, true, false, cond, not, ◌==◌, refl, sym, ap, subst, ◌∙◌, arith, append_assoc, length-append, add-one}
use Rattle.std.specs.Prelude.{if◌then◌else◌, filter, is_some, All, IsTrue}
use Rattle.std.proofs.lemmas.List.{append-nil, map-append, map-set, set_split, set-get_or, take-append-drop, drop_more, take_all, take_more, take_more_set, drop-set-lt, get_or-map, length-set}
use Rattle.std.proofs.lemmas.List.Elements.{All-nil, All-cons, All-head, All-tail, All-set, filter-append}
use Rattle.outside.specs.World.{Event, History}
use Rattle.outside.specs.Lawful.{is_lawful}
use Rattle.mem_world.specs.declared.tree.events.Scheduled.{Scheduled}
use Rattle.mem_world.specs.TreePlan.{Pairs, due_at, not_due_at, left_after, played, wanted}
use Rattle.mem_world.specs.TreeRoom.{StoredWorld, room_in}
use Rattle.mem_world.specs.TreeSteps.{pair_of, all_pairs, waiting_of, waiting_pairs}
use Rattle.mem_world.specs.WorldSteps.{event_of}

pub waiting-append : (xs ys : List Scheduled) → waiting_pairs (xs ++ ys) ≡ waiting_pairs xs ++ waiting_pairs ys
waiting-append [] ys = refl
waiting-append (x ∷ xs) ys = ap (λ pairs. waiting_of x ++ pairs) (waiting-append xs ys) ∙ sym (append_assoc (waiting_of x) (waiting_pairs xs) (waiting_pairs ys))

pub due-append : (calls : ℕ) (xs ys : Pairs) → due_at calls (xs ++ ys) ≡ due_at calls xs ++ due_at calls ys
due-append calls xs ys = ap (map (λ pair. pair.1)) (filter-append (λ pair. pair.0 == calls) xs ys) ∙ map-append (λ pair. pair.1) (filter (λ pair. pair.0 == calls) xs) (filter (λ pair. pair.0 == calls) ys)

pub not_due-append : (calls : ℕ) (xs ys : Pairs) → not_due_at calls (xs ++ ys) ≡ not_due_at calls xs ++ not_due_at calls ys
not_due-append calls xs ys = filter-append (λ pair. not (pair.0 == calls)) xs ys

pub played-append : (history : History) (xs ys : List Event) → played history (xs ++ ys) ≡ played (played history xs) ys
played-append history [] ys = refl
played-append history (x ∷ xs) ys = played-append (if is_lawful history x then x ∷ history else history) xs ys

pub wanted-append : (xs ys : Pairs) (file : ℕ) → wanted (xs ++ ys) file ≡ wanted xs file + wanted ys file
wanted-append [] ys file = omega arith
wanted-append (x ∷ xs) ys file = omega (arith, wanted-append xs ys file)

parts_at : (xs : List Scheduled) (place : ℕ) (d : Scheduled) → place < length xs → xs ≡ take place xs ++ get_or xs place d ∷ drop (place + 1) xs
parts_at xs place d within = sym (take-append-drop place xs) ∙ ap (λ rest. take place xs ++ rest) (drop_more xs place d within)

pub waiting_split : (xs : List Scheduled) (place : ℕ) (d : Scheduled) → place < length xs → waiting_pairs xs ≡ waiting_pairs (take place xs) ++ (waiting_of (get_or xs place d) ++ waiting_pairs (drop (place + 1) xs))
waiting_split xs place d within = ap waiting_pairs (parts_at xs place d within) ∙ waiting-append (take place xs) (get_or xs place d ∷ drop (place + 1) xs)

pub waiting_set : (xs : List Scheduled) (place : ℕ) (new : Scheduled) → place < length xs → waiting_pairs (set xs place new) ≡ waiting_pairs (take place xs) ++ (waiting_of new ++ waiting_pairs (drop (place + 1) xs))
waiting_set xs place new within =
    let split : set xs place new ≡ take place xs ++ new ∷ drop (place + 1) xs = rw add-one (set_split xs place new within) in
    ap waiting_pairs split ∙ waiting-append (take place xs) (new ∷ drop (place + 1) xs)

pub length_three : (xs ys zs : Pairs) → length (xs ++ (ys ++ zs)) ≡ length xs + (length ys + length zs)
length_three xs ys zs = length-append xs (ys ++ zs) ∙ ap (λ n. length xs + n) (length-append ys zs)

pub wanted_three : (xs ys zs : Pairs) (file : ℕ) → wanted (xs ++ (ys ++ zs)) file ≡ wanted xs file + (wanted ys file + wanted zs file)
wanted_three xs ys zs file = wanted-append xs (ys ++ zs) file ∙ ap (λ n. wanted xs file + n) (wanted-append ys zs file)

-- so far the steps before the place were played
pub record Playing (calls : ℕ) (first : List Scheduled) (before : StoredWorld) (steps : List Scheduled) (world : StoredWorld) (place : ℕ) : Type 0 where
  pub history : played world.history (due_at calls (waiting_pairs (drop place steps))) ≡ played before.history (due_at calls (waiting_pairs first))
  pub waiting : waiting_pairs (take place steps) ++ not_due_at calls (waiting_pairs (drop place steps)) ≡ not_due_at calls (waiting_pairs first)
  pub all : all_pairs steps ≡ all_pairs first
  pub room : length (waiting_pairs steps) ≤ world.room
  pub rooms : (file : ℕ) → wanted (waiting_pairs steps) file ≤ room_in world.rooms file

module _ {calls : ℕ} {first : List Scheduled} {before : StoredWorld} {steps : List Scheduled} {world : StoredWorld} {place : ℕ} where
  pub room_here : (playing : Playing calls first before steps world place) (d : Scheduled) → place < length steps → length (waiting_of (get_or steps place d)) ≤ world.room
  room_here playing d within =
      let split = ap length (waiting_split steps place d within) ∙ length_three (waiting_pairs (take place steps)) (waiting_of (get_or steps place d)) (waiting_pairs (drop (place + 1) steps)) in
      omega (arith, split, playing.room)

  pub rooms_here : (playing : Playing calls first before steps world place) (d : Scheduled) → place < length steps → (file : ℕ) → wanted (waiting_of (get_or steps place d)) file ≤ room_in world.rooms file
  rooms_here playing d within file =
      let split = ap (λ pairs. wanted pairs file) (waiting_split steps place d within) ∙ wanted_three (waiting_pairs (take place steps)) (waiting_of (get_or steps place d)) (waiting_pairs (drop (place + 1) steps)) file in
      omega (arith, split, playing.rooms file)

  pub playing_more : (playing : Playing calls first before steps world place) (d new : Scheduled) (after : StoredWorld) → place < length steps
      → after.history ≡ played world.history (due_at calls (waiting_of (get_or steps place d)))
      → waiting_of new ≡ not_due_at calls (waiting_of (get_or steps place d))
      → pair_of new ≡ pair_of (get_or steps place d)
      → length (waiting_of new) + world.room ≤ after.room + length (waiting_of (get_or steps place d))
      → ((file : ℕ) → wanted (waiting_of new) file + room_in world.rooms file ≤ room_in after.rooms file + wanted (waiting_of (get_or steps place d)) file)
      → Playing calls first before (set steps place new) after (place + 1)
  playing_more playing d new after within history waiting pair room rooms =
      let old = get_or steps place d in
      let front = waiting_pairs (take place steps) in
      let back = waiting_pairs (drop (place + 1) steps) in
      let rest : drop (place + 1) (set steps place new) ≡ drop (place + 1) steps = drop-set-lt (place + 1) steps place new (omega arith) in
      let start : drop place steps ≡ old ∷ drop (place + 1) steps = drop_more steps place d within in
      let split = waiting_split steps place d within in
      let split_new = waiting_set steps place new within in
      let long = ap length split ∙ length_three front (waiting_of old) back in
      let long_new = ap length split_new ∙ length_three front (waiting_of new) back in
      record {
        history =
            ap (λ s. played after.history (due_at calls (waiting_pairs s))) rest
            ∙ ap (λ h. played h (due_at calls back)) history
            ∙ sym (played-append world.history (due_at calls (waiting_of old)) (due_at calls back))
            ∙ ap (played world.history) (sym (due-append calls (waiting_of old) back))
            ∙ ap (λ s. played world.history (due_at calls (waiting_pairs s))) (sym start)
            ∙ playing.history;
        waiting =
            ap (λ s. waiting_pairs (take (place + 1) (set steps place new)) ++ not_due_at calls (waiting_pairs s)) rest
            ∙ ap (λ s. waiting_pairs s ++ not_due_at calls back) (take_more_set steps place new within)
            ∙ ap (λ s. s ++ not_due_at calls back) (waiting-append (take place steps) (new ∷ []) ∙ ap (λ s. front ++ s) (append-nil (waiting_of new) ∙ waiting))
            ∙ append_assoc front (not_due_at calls (waiting_of old)) (not_due_at calls back)
            ∙ ap (λ s. front ++ s) (sym (not_due-append calls (waiting_of old) back))
            ∙ ap (λ s. front ++ not_due_at calls (waiting_pairs s)) (sym start)
            ∙ playing.waiting;
        all =
            map-set pair_of steps place new
            ∙ ap (λ p. set (all_pairs steps) place p) (pair ∙ sym (get_or-map pair_of steps place d (pair_of d) within))
            ∙ set-get_or (all_pairs steps) place (pair_of d)
            ∙ playing.all;
        room = omega (arith, long, long_new, room, playing.room);
        rooms = λ file.
            let many = ap (λ pairs. wanted pairs file) split ∙ wanted_three front (waiting_of old) back file in
            let many_new = ap (λ pairs. wanted pairs file) split_new ∙ wanted_three front (waiting_of new) back file in
            omega (arith, many, many_new, rooms file, playing.rooms file);
      }

pub all_waiting : (xs : List Scheduled) → All (λ s. IsTrue (is_some s.ready)) xs → waiting_pairs xs ≡ all_pairs xs
all_waiting [] all = refl
all_waiting (x ∷ xs) all =
    let here : is_some x.ready ≡ true = All-head (λ s. IsTrue (is_some s.ready)) x xs all in
    let one : waiting_of x ≡ pair_of x ∷ [] = rw here in
    ap (λ pairs. pairs ++ waiting_pairs xs) one ∙ ap (λ pairs. pair_of x ∷ pairs) (all_waiting xs (All-tail (λ s. IsTrue (is_some s.ready)) x xs all))

pub kept_pairs : (xs : List Scheduled) → all_pairs (filter (λ s. is_some s.ready) xs) ≡ waiting_pairs xs
kept_pairs [] = refl
kept_pairs (x ∷ xs) =
    elim (is_some x.ready) as (λ t. all_pairs (cond t (x ∷ filter (λ s. is_some s.ready) xs) (filter (λ s. is_some s.ready) xs)) ≡ cond t (pair_of x ∷ []) [] ++ waiting_pairs xs) [
      | true ↦ ap (λ pairs. pair_of x ∷ pairs) (kept_pairs xs)
      | false ↦ kept_pairs xs
    ]

pub numbers_kept : (calls : ℕ) (xs : List Scheduled) → All (λ pair. calls ≤ pair.0) (all_pairs xs) → All (λ s. calls ≤ s.number) xs
numbers_kept calls [] all = All-nil (λ s. calls ≤ s.number)
numbers_kept calls (x ∷ xs) all =
    All-cons (λ s. calls ≤ s.number) x xs (All-head (λ pair. calls ≤ pair.0) (pair_of x) (all_pairs xs) all) (numbers_kept calls xs (All-tail (λ pair. calls ≤ pair.0) (pair_of x) (all_pairs xs) all))

-- so far the numbers before the place were counted down
pub record CountingDown (calls : ℕ) (first steps : List Scheduled) (place : ℕ) : Type 0 where
  pub front : all_pairs (take place steps) ≡ left_after calls (all_pairs (take place first))
  pub rest : drop place steps ≡ drop place first
  pub waiting : All (λ s. IsTrue (is_some s.ready)) steps
  pub long : length steps ≡ length first

heads : {x y : Scheduled} {xs ys : List Scheduled} → x ∷ xs ≡ y ∷ ys → x ≡ y
heads same = cc

tails : {x y : Scheduled} {xs ys : List Scheduled} → x ∷ xs ≡ y ∷ ys → xs ≡ ys
tails same = cc

module _ {calls : ℕ} {first steps : List Scheduled} {place : ℕ} where
  same_next : (counting : CountingDown calls first steps place) (d : Scheduled) → place < length steps → get_or steps place d ∷ drop (place + 1) steps ≡ get_or first place d ∷ drop (place + 1) first
  same_next counting d within =
      let there : place < length first = omega (arith, counting.long) in
      sym (drop_more steps place d within) ∙ counting.rest ∙ drop_more first place d there

  pub number_here : (counting : CountingDown calls first steps place) (d : Scheduled) → place < length steps → All (λ s. calls ≤ s.number) first → calls ≤ (get_or steps place d).number
  number_here counting d within all =
      let there : place < length first = omega (arith, counting.long) in
      let P : Scheduled → Type 0 = λ s. calls ≤ s.number in
      subst P (sym (heads (same_next counting d within))) (all place d there)

  pub counting_more : (counting : CountingDown calls first steps place) (d new : Scheduled) → place < length steps → pair_of new ≡ ((get_or steps place d).number - calls, event_of (get_or steps place d).step) → is_some new.ready ≡ is_some (get_or steps place d).ready → CountingDown calls first (set steps place new) (place + 1)
  counting_more counting d new within pair ready =
      let there : place < length first = omega (arith, counting.long) in
      let same = heads (same_next counting d within) in
      record {
        front =
            ap all_pairs (take_more_set steps place new within)
            ∙ map-append pair_of (take place steps) (new ∷ [])
            ∙ ap (λ pairs. pairs ++ pair_of new ∷ []) counting.front
            ∙ ap (λ p. left_after calls (all_pairs (take place first)) ++ p ∷ []) (pair ∙ ap (λ (s : Scheduled). (s.number - calls, event_of s.step)) same)
            ∙ sym (map-append (λ (p : ℕ × Event). (p.0 - calls, p.1)) (all_pairs (take place first)) (pair_of (get_or first place d) ∷ []))
            ∙ ap (left_after calls) (sym (map-append pair_of (take place first) (get_or first place d ∷ [])))
            ∙ ap (λ s. left_after calls (all_pairs s)) (sym (take_more first place d there));
        rest = drop-set-lt (place + 1) steps place new (omega arith) ∙ tails (same_next counting d within);
        waiting = All-set (λ s. IsTrue (is_some s.ready)) steps place new (ready ∙ counting.waiting place d within) counting.waiting;
        long = length-set steps place new ∙ counting.long;
      }

  pub counting_all : (counting : CountingDown calls first steps place) → length steps ≤ place → (all_pairs steps ≡ left_after calls (all_pairs first)) × (waiting_pairs steps ≡ left_after calls (all_pairs first))
  counting_all counting past =
      let pairs : all_pairs steps ≡ left_after calls (all_pairs first) =
      ap all_pairs (sym (take_all place steps past)) ∙ counting.front ∙ ap (λ s. left_after calls (all_pairs s)) (take_all place first (omega (arith, counting.long, past))) in
      (pairs, all_waiting steps counting.waiting ∙ pairs)
