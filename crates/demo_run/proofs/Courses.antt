-- The steps of others in a course that a script without planned steps allows are those of the script.
use Rattle.std.proofs.Common.{◌≡◌, ℕ, List, [], ◌∷◌, ◌++◌, false, true, Some, refl, ap, subst, ◌∙◌}
use Rattle.std.specs.Prelude.{map}
use Rattle.demo_run.specs.Moves.{Move, step, step_within, poll, stop, disk_fails, tree_fails, reopen, move_of}
use Rattle.demo_run.specs.Steps.{steps_in, steps_of}
use Rattle.lifetimes.proofs.OwnLemmas.{AreOwn, own_by}
use Rattle.lifetimes.specs.Course.{Course, Comes, GoesBy, Runs, begins, goes_on, steps, plans, sets, fails_disk, fails_tree, opens, opens_failed, opens_stopped, polls_on, polls_full, polls_failed, polls_stopped}
use Rattle.demo_run.proofs.Counts.{stop_in}
use Rattle.lifetimes.specs.Script.{Halt, Pending, nothing_pending, pending}
use Rattle.lifetimes.specs.declared.event.Event.{Event}
use Rattle.lifetimes.specs.declared.event.Event.TheVariants.{World, During, Poll, Stop, FailDisk, FailTree, Reopen}
use Rattle.mem_world.specs.WorldSteps.{event_of}
use Rattle.mem_world.specs.declared.world.WorldStep.{WorldStep}
use Rattle.mem_world.specs.declared.world.WorldStep.TheVariants.{Create, Append, Rename, Remove}
use Rattle.outside.specs.World.{Event as WorldEvent, create, append, rename, remove, look, miss, unlisted, History}
use Rattle.standing.specs.Rules.{Rules}

-- no step is planned, and no call is to fail
abbrev pub NonePlanned : List Move → Type 0
NonePlanned [] = Unit {0}
NonePlanned (step _ ∷ before) = NonePlanned before
NonePlanned (step_within _ _ ∷ before) = ⊥
NonePlanned (poll ∷ before) = NonePlanned before
NonePlanned (stop _ _ ∷ before) = NonePlanned before
NonePlanned (disk_fails _ ∷ before) = ⊥
NonePlanned (tree_fails _ ∷ before) = ⊥
NonePlanned (reopen ∷ before) = NonePlanned before

-- nothing waits but the stop that is set
pub only_a_stop : (events : List Event) → NonePlanned (map move_of events) → pending events ≡ record nothing_pending { stop = stop_in (map move_of events) }
only_a_stop [] none = refl
only_a_stop (World _ ∷ before) none = only_a_stop before none
only_a_stop (During _ _ ∷ before) none = absurd none
only_a_stop (Poll ∷ before) none = refl
only_a_stop (Stop calls outcome ∷ before) none =
    let halt : Halt = record { calls = calls; outcome = outcome } in
    ap (λ (waits : Pending). record waits { stop = Some halt }) (only_a_stop before none)
only_a_stop (FailDisk _ ∷ before) none = absurd none
only_a_stop (FailTree _ ∷ before) none = absurd none
only_a_stop (Reopen ∷ before) none = refl

no_plan : (events : List Event) → NonePlanned (map move_of events) → (pending events).plan ≡ []
no_plan events none = ap (λ (waits : Pending). waits.plan) (only_a_stop events none)

own_no_steps : (events : List WorldEvent) (old : History) → AreOwn events → steps_of (events ++ old) ≡ steps_of old
own_no_steps [] old own = refl
own_no_steps (create _ _ ∷ events) old own = absurd (let never : false ≡ true = own.0 in cc)
own_no_steps (append _ _ ∷ events) old own = absurd (let never : false ≡ true = own.0 in cc)
own_no_steps (rename _ _ ∷ events) old own = absurd (let never : false ≡ true = own.0 in cc)
own_no_steps (remove _ ∷ events) old own = absurd (let never : false ≡ true = own.0 in cc)
own_no_steps (look _ ∷ events) old own = own_no_steps events old own.1
own_no_steps (miss _ ∷ events) old own = own_no_steps events old own.1
own_no_steps (unlisted _ ∷ events) old own = own_no_steps events old own.1

-- a poll for which no step waits
polled : (before : List Event) (old new : History) → NonePlanned (map move_of before) → GoesBy (pending before).plan old new → steps_of new ≡ steps_of old
polled before old new none goes =
    let alone : GoesBy [] old new = subst (λ (plan : List (ℕ × WorldEvent)). GoesBy plan old new) (no_plan before none) goes in
    ap steps_of alone.later.goes_on ∙ own_no_steps alone.later.events old (own_by old new alone)

stepped : (world_step : WorldStep) (history : History) → steps_of (event_of world_step ∷ history) ≡ event_of world_step ∷ steps_of history
stepped (Create _ _) history = refl
stepped (Append _ _) history = refl
stepped (Rename _ _) history = refl
stepped (Remove _) history = refl

module _ (rules : Rules) where
  comes_steps : (before : List Event) (event : Event) (old new : Course) → NonePlanned (map move_of (event ∷ before)) → Comes rules before old event new → steps_of old.history ≡ steps_in (map move_of before)
      → steps_of new.history ≡ steps_in (map move_of (event ∷ before))
  comes_steps before (World world_step) old _ none (steps _ lawful) same = stepped world_step old.history ∙ ap (λ (h : History). event_of world_step ∷ h) same
  comes_steps before (During calls world_step) old _ none (plans _ _) same = absurd none
  comes_steps before (Stop calls outcome) old _ none (sets _ _) same = same
  comes_steps before (FailDisk call) old _ none (fails_disk _ _ _) same = absurd none
  comes_steps before (FailTree call) old _ none (fails_tree _) same = absurd none
  comes_steps before Reopen old _ none (opens _ _ _ _) same = same
  comes_steps before Reopen old _ none (opens_failed _ _ _ _ _) same = same
  comes_steps before Reopen old _ none (opens_stopped _ _ _ _ _) same = same
  comes_steps before Poll old _ none (polls_on new _ _ _ goes) same = polled before old.history new none goes ∙ same
  comes_steps before Poll old _ none (polls_full new _ _ _ goes _) same = polled before old.history new none goes ∙ same
  comes_steps before Poll old _ none (polls_failed new _ _ _ goes _) same = polled before old.history new none goes ∙ same
  comes_steps before Poll old _ none (polls_stopped _ new _ _ _ goes _) same = polled before old.history new none goes ∙ same

  none_before : (event : Event) (before : List Event) → NonePlanned (map move_of (event ∷ before)) → NonePlanned (map move_of before)
  none_before (World _) before none = none
  none_before (During _ _) before none = absurd none
  none_before Poll before none = none
  none_before (Stop _ _) before none = none
  none_before (FailDisk _) before none = absurd none
  none_before (FailTree _) before none = absurd none
  none_before Reopen before none = none

  pub runs_steps : (events : List Event) (marks : List ℕ) (course : Course) → Runs rules events marks course → NonePlanned (map move_of events) → steps_of course.history ≡ steps_in (map move_of events)
  runs_steps _ _ _ (begins course is) none = ap steps_of is.history
  runs_steps _ _ _ (goes_on event before marks old new runs comes) none =
      comes_steps before event old new none comes (runs_steps before marks old runs (none_before event before none))
