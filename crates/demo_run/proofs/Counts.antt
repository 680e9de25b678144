-- How many polls and stops a script has.
use Rattle.std.proofs.Common.{◌≡◌, ℕ, zero, suc, ◌+◌, ◌/◌, ◌%◌, ◌==◌, List, [], ◌∷◌, ◌++◌, true, false, Option, Some, None, refl, sym, ap, subst, ◌∙◌, arith}
use Rattle.std.specs.Prelude.{map, reverse}
use Rattle.std.proofs.lemmas.List.{reverse-append}
use Rattle.std.proofs.lemmas.Bool.{eqb-true, eqb-false}
use Rattle.demo_run.specs.Moves.{Move, step, step_within, poll, stop, disk_fails, tree_fails, reopen, move_of}
use Rattle.demo_run.specs.Script.{Played, with_move, with_rotation, with_line, with_file, played, script, line_of, log_of, log_name, rotated_name}
use Rattle.demo_run.proofs.Cases.{latest, latest_is, by_file, by_line, by_rotation, by_stop, filed, lined, rotated, stopped}
use Rattle.lifetimes.specs.Script.{Halt, pending, counts_of, stops_by}
use Rattle.lifetimes.specs.declared.event.Event.{Event}
use Rattle.lifetimes.specs.declared.event.Event.TheVariants.{World, During, Poll, Stop, FailDisk, FailTree, Reopen}
use Rattle.outside.specs.World.{append, create, rename}

-- ---- counts of moves, the newest first

-- the stop that is set
abbrev pub stop_in : List Move → Option Halt
stop_in [] = None
stop_in (step _ ∷ before) = stop_in before
stop_in (step_within _ _ ∷ before) = stop_in before
stop_in (poll ∷ before) = None
stop_in (stop calls outcome ∷ before) = Some (record { calls = calls; outcome = outcome })
stop_in (disk_fails _ ∷ before) = stop_in before
stop_in (tree_fails _ ∷ before) = stop_in before
stop_in (reopen ∷ before) = None

abbrev pub polls_in : List Move → ℕ
polls_in [] = 0
polls_in (step _ ∷ before) = polls_in before
polls_in (step_within _ _ ∷ before) = polls_in before
polls_in (poll ∷ before) = polls_in before + 1
polls_in (stop _ _ ∷ before) = polls_in before
polls_in (disk_fails _ ∷ before) = polls_in before
polls_in (tree_fails _ ∷ before) = polls_in before
polls_in (reopen ∷ before) = polls_in before

abbrev pub stops_in : List Move → ℕ
stops_in [] = 0
stops_in (step _ ∷ before) = stops_in before
stops_in (step_within _ _ ∷ before) = stops_in before
stops_in (poll ∷ before) = stops_in before + stops_by (stop_in before)
stops_in (stop _ _ ∷ before) = stops_in before
stops_in (disk_fails _ ∷ before) = stops_in before
stops_in (tree_fails _ ∷ before) = stops_in before
stops_in (reopen ∷ before) = stops_in before + stops_by (stop_in before)

pub stop_is : (events : List Event) → (pending events).stop ≡ stop_in (map move_of events)
stop_is [] = refl
stop_is (World _ ∷ before) = stop_is before
stop_is (During _ _ ∷ before) = stop_is before
stop_is (Poll ∷ before) = refl
stop_is (Stop _ _ ∷ before) = refl
stop_is (FailDisk _ ∷ before) = stop_is before
stop_is (FailTree _ ∷ before) = stop_is before
stop_is (Reopen ∷ before) = refl

pub polls_are : (events : List Event) → (counts_of events).polls ≡ polls_in (map move_of events)
polls_are [] = refl
polls_are (World _ ∷ before) = polls_are before
polls_are (During _ _ ∷ before) = polls_are before
polls_are (Poll ∷ before) = omega (arith, polls_are before)
polls_are (Stop _ _ ∷ before) = polls_are before
polls_are (FailDisk _ ∷ before) = polls_are before
polls_are (FailTree _ ∷ before) = polls_are before
polls_are (Reopen ∷ before) = polls_are before

more_stops : (a b : ℕ) (one other : Option Halt) → a ≡ b → one ≡ other → a + stops_by one ≡ b + stops_by other
more_stops a b one other same same_stop = omega (arith, same, ap stops_by same_stop)

pub stops_are : (events : List Event) → (counts_of events).stops ≡ stops_in (map move_of events)
stops_are [] = refl
stops_are (World _ ∷ before) = stops_are before
stops_are (During _ _ ∷ before) = stops_are before
stops_are (Poll ∷ before) = more_stops _ _ _ _ (stops_are before) (stop_is before)
stops_are (Stop _ _ ∷ before) = stops_are before
stops_are (FailDisk _ ∷ before) = stops_are before
stops_are (FailTree _ ∷ before) = stops_are before
stops_are (Reopen ∷ before) = more_stops _ _ _ _ (stops_are before) (stop_is before)

-- ---- those of a script

-- so many polls and stops, and no stop is set
abbrev pub Counts : ℕ → ℕ → List Move → Type 0
Counts polls stops moves = (polls_in moves ≡ polls) × (stops_in moves ≡ stops) × (stop_in moves ≡ None)

abbrev pub Has : ℕ → ℕ → Played → Type 0
Has polls stops played = Counts polls stops (latest played)

by_latest : (P : List Move → Type 0) (move : Move) (played : Played) → P (move ∷ latest played) → P (latest (with_move move played))
by_latest P move played holds = subst P (sym (latest_is move played)) holds

module _ (polls stops : ℕ) where
  keeps_file : (round : ℕ) (played : Played) → Has polls stops played → Has polls stops (with_file round played)
  keeps_file round played has = by_file (Has polls stops) round played (λ file is. has) (λ free. by_latest (Counts polls stops) (step (create played.next_file (log_name (log_of round)))) played has)

  keeps_line : (round : ℕ) (played : Played) → Has polls stops played → Has polls stops (with_line round played)
  keeps_line round played has = by_line (Has polls stops) round played (λ file is. by_latest (Counts polls stops) (step (append file (line_of round))) played has) (λ free. has)

  keeps_rotation : (round : ℕ) (played : Played) → Has polls stops played → Has polls stops (with_rotation round played)
  keeps_rotation round played has = by_rotation (Has polls stops) round played (λ due file is. by_latest (Counts polls stops) (step (rename file (rotated_name round))) played has) has

  pub keeps_all : (n : ℕ) → Has polls stops (played n) → Has polls stops (rotated n)
  keeps_all n has = keeps_rotation (suc n) (lined n) (keeps_line (suc n) (filed n) (keeps_file (suc n) (played n) has))

-- one more where the number is a multiple of seven
next_seventh : (n : ℕ) → ((suc n % 7 == 0) ≡ true → suc n / 7 ≡ n / 7 + 1) × ((suc n % 7 == 0) ≡ false → suc n / 7 ≡ n / 7)
next_seventh n = (λ is. omega (arith, eqb-true (suc n % 7) 0 is), λ is. omega (arith, eqb-false (suc n % 7) 0 is))

polled : (polls stops : ℕ) (played : Played) → Has polls stops played → Has (polls + 1) stops (with_move poll played)
polled polls stops played has =
    by_latest (Counts (polls + 1) stops) poll played
    (omega (arith, has.0), omega (arith, has.1, ap stops_by has.2), refl)

stopped_once : (polls stops calls outcome : ℕ) (played : Played) → Has polls stops played → Has (polls + 1) (stops + 1) (with_move reopen (with_move poll (with_move (stop calls outcome) played)))
stopped_once polls stops calls outcome so_far has =
    let mid : Played = with_move (stop calls outcome) so_far in
    let last : Played = with_move poll mid in
    by_latest (Counts (polls + 1) (stops + 1)) reopen last
    (subst (λ (ms : List Move). Counts (polls + 1) (stops + 1) (reopen ∷ ms)) (sym (latest_is poll mid))
    (subst (λ (ms : List Move). Counts (polls + 1) (stops + 1) (reopen ∷ poll ∷ ms)) (sym (latest_is (stop calls outcome) so_far))
    (omega (arith, has.0), omega (arith, has.1), refl)))

same_counts : (polls stops other_polls other_stops : ℕ) (played : Played) → polls ≡ other_polls → stops ≡ other_stops → Has polls stops played → Has other_polls other_stops played
same_counts polls stops other_polls other_stops played same same_stops has = (has.0 ∙ same, has.1 ∙ same_stops, has.2)

pub counts : (n : ℕ) → Counts (n + n / 7) (n / 7) (latest (played n))
counts zero = (refl, refl, refl)
counts (suc n) =
    let seventh = next_seventh n in
    let before : Has (n + n / 7) (n / 7) (rotated n) = keeps_all (n + n / 7) (n / 7) n (counts n) in
    by_stop (λ (p : Played). Has (suc n + suc n / 7) (suc n / 7) (with_move poll p)) (suc n) (rotated n)
    (λ due. same_counts ((n + n / 7 + 1) + 1) (n / 7 + 1) (suc n + suc n / 7) (suc n / 7) (with_move poll (stopped n)) (omega (arith, seventh.0 due)) (sym (seventh.0 due))
    (polled (n + n / 7 + 1) (n / 7 + 1) (stopped n) (stopped_once (n + n / 7) (n / 7) (suc n % 13) (suc n % 5) (rotated n) before)))
    (λ not_due. same_counts (n + n / 7 + 1) (n / 7) (suc n + suc n / 7) (suc n / 7) (with_move poll (rotated n)) (omega (arith, seventh.1 not_due)) (sym (seventh.1 not_due))
    (polled (n + n / 7) (n / 7) (rotated n) before))

-- ---- those of a list of events

map_append : (events more : List Event) → map move_of (events ++ more) ≡ map move_of events ++ map move_of more
map_append [] more = refl
map_append (event ∷ events) more = ap (λ (ms : List Move). move_of event ∷ ms) (map_append events more)

pub moves_back : (events : List Event) → map move_of (reverse events) ≡ reverse (map move_of events)
moves_back [] = refl
moves_back (event ∷ events) =
    ap (map move_of) (reverse-append (event ∷ []) events) ∙ map_append (reverse events) (event ∷ []) ∙ ap (λ (ms : List Move). ms ++ move_of event ∷ []) (moves_back events)
    ∙ sym (reverse-append (move_of event ∷ []) (map move_of events))

pub script_counts : (n : ℕ) (events : List Event) → map move_of events ≡ script n → ((counts_of (reverse events)).polls ≡ n + n / 7) × ((counts_of (reverse events)).stops ≡ n / 7)
script_counts n events is =
    let back : map move_of (reverse events) ≡ latest (played n) = moves_back events ∙ ap reverse is in
    let all = counts n in
    (polls_are (reverse events) ∙ ap polls_in back ∙ all.0, stops_are (reverse events) ∙ ap stops_in back ∙ all.1)
