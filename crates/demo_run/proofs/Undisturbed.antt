-- How a script ends: by a poll that nothing disturbs, or, where it has no rounds, by the opening alone.
use Rattle.std.proofs.Common.{◌≡◌, ℕ, suc, ◌+◌, ◌/◌, ◌%◌, List, [], ◌∷◌, Option, None, IsTrue, refl, sym, ap, subst, ◌∙◌}
use Rattle.std.specs.Prelude.{map, reverse}
use Rattle.demo_run.specs.Moves.{Move, step, step_within, poll, stop, disk_fails, tree_fails, reopen, move_of}
use Rattle.demo_run.specs.Script.{Played, played, script, with_move, with_stop}
use Rattle.demo_run.proofs.Cases.{latest, latest_is, by_stop, rotated}
use Rattle.demo_run.proofs.Counts.{counts, keeps_all, moves_back, stop_in}
use Rattle.demo_run.proofs.Courses.{NonePlanned, only_a_stop}
use Rattle.demo_run.proofs.PlanLemmas.{none_planned}
use Rattle.lifetimes.specs.Script.{Halt, nothing_pending, counts_of, EndsUndisturbed}
use Rattle.lifetimes.specs.declared.event.Event.{Event}
use Rattle.lifetimes.specs.declared.event.Event.TheVariants.{World, During, Poll, Stop, FailDisk, FailTree, Reopen}
use Rattle.mem_world.specs.WorldSteps.{event_of}

-- what stands before the last poll of a script of n + 1 rounds
abbrev unpolled : ℕ → Played
unpolled n = with_stop (suc n) (rotated n)

none_set : (n : ℕ) → stop_in (latest (unpolled n)) ≡ None
none_set n =
    by_stop (λ (p : Played). stop_in (latest p) ≡ None) (suc n) (rotated n)
    (λ due. ap stop_in (latest_is reopen (with_move poll (with_move (stop (suc n % 13) (suc n % 5)) (rotated n)))))
    (λ not_due. (keeps_all (n + n / 7) (n / 7) n (counts n)).2)

last_poll : (n : ℕ) → latest (played (suc n)) ≡ poll ∷ latest (unpolled n)
last_poll n = latest_is poll (unpolled n)

by_poll : (events : List Event) (before : List Move) → map move_of events ≡ poll ∷ before → stop_in before ≡ None → NonePlanned (poll ∷ before) → EndsUndisturbed events
by_poll [] before is none free = let never : ◌≡◌ {A = List Move} [] (poll ∷ before) = is in absurd (cc (never))
by_poll (World world_step ∷ events) before is none free = let never : ◌≡◌ {A = List Move} (step (event_of world_step) ∷ map move_of events) (poll ∷ before) = is in absurd (cc (never))
by_poll (During calls world_step ∷ events) before is none free = let never : ◌≡◌ {A = List Move} (step_within calls (event_of world_step) ∷ map move_of events) (poll ∷ before) = is in absurd (cc (never))
by_poll (Poll ∷ events) before is none free =
    let all : ◌≡◌ {A = List Move} (poll ∷ map move_of events) (poll ∷ before) = is in
    let behind : map move_of events ≡ before = cc (all) in
    only_a_stop events (subst NonePlanned (sym behind) free) ∙ ap (λ (stop : Option Halt). record nothing_pending { stop = stop }) (ap stop_in behind ∙ none)
by_poll (Stop calls outcome ∷ events) before is none free = let never : ◌≡◌ {A = List Move} (stop calls outcome ∷ map move_of events) (poll ∷ before) = is in absurd (cc (never))
by_poll (FailDisk call ∷ events) before is none free = let never : ◌≡◌ {A = List Move} (disk_fails call ∷ map move_of events) (poll ∷ before) = is in absurd (cc (never))
by_poll (FailTree call ∷ events) before is none free = let never : ◌≡◌ {A = List Move} (tree_fails call ∷ map move_of events) (poll ∷ before) = is in absurd (cc (never))
by_poll (Reopen ∷ events) before is none free = let never : ◌≡◌ {A = List Move} (reopen ∷ map move_of events) (poll ∷ before) = is in absurd (cc (never))

pub undisturbed : (n : ℕ) (events : List Event) → map move_of events ≡ script (suc n) → EndsUndisturbed (reverse events)
undisturbed n events is =
    let back : map move_of (reverse events) ≡ latest (played (suc n)) = moves_back events ∙ ap reverse is in
    by_poll (reverse events) (latest (unpolled n)) (back ∙ last_poll n) (none_set n) (subst NonePlanned (last_poll n) (none_planned (suc n)))

-- ---- no rounds

only_opens : (events : List Event) → map move_of events ≡ reopen ∷ [] → IsTrue (counts_of events).early
only_opens [] is = let never : ◌≡◌ {A = List Move} [] (reopen ∷ []) = is in absurd (cc (never))
only_opens (World world_step ∷ events) is = let never : ◌≡◌ {A = List Move} (step (event_of world_step) ∷ map move_of events) (reopen ∷ []) = is in absurd (cc (never))
only_opens (During calls world_step ∷ events) is = let never : ◌≡◌ {A = List Move} (step_within calls (event_of world_step) ∷ map move_of events) (reopen ∷ []) = is in absurd (cc (never))
only_opens (Poll ∷ events) is = let never : ◌≡◌ {A = List Move} (poll ∷ map move_of events) (reopen ∷ []) = is in absurd (cc (never))
only_opens (Stop calls outcome ∷ events) is = let never : ◌≡◌ {A = List Move} (stop calls outcome ∷ map move_of events) (reopen ∷ []) = is in absurd (cc (never))
only_opens (FailDisk call ∷ events) is = let never : ◌≡◌ {A = List Move} (disk_fails call ∷ map move_of events) (reopen ∷ []) = is in absurd (cc (never))
only_opens (FailTree call ∷ events) is = let never : ◌≡◌ {A = List Move} (tree_fails call ∷ map move_of events) (reopen ∷ []) = is in absurd (cc (never))
only_opens (Reopen ∷ []) is = refl
only_opens (Reopen ∷ event ∷ events) is = let never : ◌≡◌ {A = List Move} (reopen ∷ move_of event ∷ map move_of events) (reopen ∷ []) = is in absurd (cc (never))

pub early : (events : List Event) → map move_of events ≡ script 0 → IsTrue (counts_of (reverse events)).early
early events is = only_opens (reverse events) (moves_back events ∙ ap reverse is)
