-- Events come to a life, one after another.
use Rattle.std.proofs.Common.{◌≡◌, ◌≢◌, ℕ, ◌+◌, ◌<◌, ◌≤◌, min, List, [], ◌∷◌, ◌++◌, length, Bool, true, false, Option, Some, None, refl, sym, ap, subst, ◌∙◌, inl, inr, arith}
use Rattle.std.specs.Prelude.{◌↔◌, IfSome, is_some, option_map, Result, Ok, Err}
use Rattle.std.proofs.lemmas.List.{length-append}
use Rattle.lifetimes.proofs.DiskLemmas.{leaves_later, leaves_same, well_fresh}
use Rattle.lifetimes.proofs.PollLemmas.{ready_same}
use Rattle.lifetimes.proofs.TreeLemmas.{tree_begins, history_begins, tree_later, tree_stepped, history_stepped, tree_planned, history_planned, tree_failing, history_failing, tree_cleared, history_cleared}
use Rattle.lifetimes.specs.Course.{Course, Comes, GoesBy, steps, plans, sets, fails_disk, fails_tree, opens, opens_failed, opens_stopped, polls_on, polls_full, polls_failed, polls_stopped}
use Rattle.lifetimes.specs.Ended.{history_of}
use Rattle.lifetimes.specs.Large.{Large}
use Rattle.lifetimes.specs.Inner.Life.{past_of, stop_set, waits_of, IsLifeAt, course_of, AreFew, CameTo, Cant}
use Rattle.lifetimes.specs.Inner.Past.{Past, Failures, Waits, LeavesAt, IsTreeAt, IsTreePolled, IsDiskAt, IsWell, IsReady, IsOpened, MayPoll, ReachesAll, GoesOn, Opens, CantOpenBy, dropped, polled}
use Rattle.lifetimes.specs.Script.{Halt, Pending, pending, counts_of, stops_by, is_early}
use Rattle.lifetimes.specs.Stopped.{IsStopped, halt_of}
use Rattle.lifetimes.specs.declared.event.Event.{Event}
use Rattle.lifetimes.specs.declared.event.Event.TheVariants.{World, During, Poll, Stop, FailDisk, FailTree, Reopen}
use Rattle.lifetimes.specs.declared.fault.ScriptFault.{ScriptFault}
use Rattle.lifetimes.specs.declared.fault.ScriptFault.TheVariants.{Setup, NotOpen, AlreadyOpen, NotLawful, Memory}
use Rattle.lifetimes.specs.declared.life.Life.{Life}
use Rattle.lifetimes.specs.declared.stopping.Stopping.{Stopping}
use Rattle.mem_world.specs.MemDisk.{disk_images, faults_of, history_of as log_of, most_faults, IsFresh}
use Rattle.mem_world.specs.MemTree.{state_of}
use Rattle.mem_world.specs.TreeTold.{empty_tree, planned_anew, unplanned, with_failure}
use Rattle.mem_world.specs.WorldSteps.{event_of}
use Rattle.mem_world.specs.declared.disk.MemDisk.{MemDisk}
use Rattle.mem_world.specs.declared.tree.MemTree.{MemTree}
use Rattle.mem_world.specs.declared.world.StepFault.{StepFault}
use Rattle.mem_world.specs.declared.world.StepFault.TheVariants as playing
use Rattle.mem_world.specs.declared.world.WorldStep.{WorldStep}
use Rattle.outside.specs.Crash.{Passes}
use Rattle.outside.specs.Lawful.{is_lawful}
use Rattle.outside.specs.World.{Event as WorldEvent, History}
use Rattle.poll_core.specs.Reopens.{Reopens}
use Rattle.poll_core.specs.declared.session.Session.{Session}
use Rattle.standing.specs.AreRules.{AreRules}
use Rattle.standing.specs.Moments.{IsLater}
use Rattle.standing.specs.Rules.{Rules}

-- ---- scripts

-- there are no more polls than events
pub polls_within : (events : List Event) → (counts_of events).polls ≤ length events
polls_within [] = omega arith
polls_within (World step ∷ before) = omega (arith, polls_within before)
polls_within (During calls step ∷ before) = omega (arith, polls_within before)
polls_within (Poll ∷ before) = omega (arith, polls_within before)
polls_within (Stop calls outcome ∷ before) = omega (arith, polls_within before)
polls_within (FailDisk call ∷ before) = omega (arith, polls_within before)
polls_within (FailTree call ∷ before) = omega (arith, polls_within before)
polls_within (Reopen ∷ before) = omega (arith, polls_within before)

stops_by_one : (stop : Option Halt) → stops_by stop ≤ 1
stops_by_one None = omega arith
stops_by_one (Some halt) = omega arith

pub stops_within : (events : List Event) → (counts_of events).stops ≤ length events
stops_within [] = omega arith
stops_within (World step ∷ before) = omega (arith, stops_within before)
stops_within (During calls step ∷ before) = omega (arith, stops_within before)
stops_within (Poll ∷ before) = omega (arith, stops_within before, stops_by_one (pending before).stop)
stops_within (Stop calls outcome ∷ before) = omega (arith, stops_within before)
stops_within (FailDisk call ∷ before) = omega (arith, stops_within before)
stops_within (FailTree call ∷ before) = omega (arith, stops_within before)
stops_within (Reopen ∷ before) = omega (arith, stops_within before, stops_by_one (pending before).stop)

some_fail : (calls : List ℕ) → 0 < length calls → calls ≢ []
some_fail [] some = absurd (omega (arith, some))
some_fail (call ∷ calls) some = λ none. cc

-- ---- failures

abbrev failures : ℕ → ℕ → Failures
failures waiting most = record { waiting = waiting; most = most }

same_failures : (waiting other most more : ℕ) → waiting ≡ other → most ≡ more → failures waiting most ≡ failures other more
same_failures waiting other most more same same_most = ap (λ (n : ℕ). failures n most) same ∙ ap (failures other) same_most

-- one call more that is to fail
one_failing : (calls : List ℕ) (call most more : ℕ) → more ≡ most + 1 → failures (length calls + 1) (most + 1) ≡ failures (length (calls ++ call ∷ [])) more
one_failing calls call most more is = same_failures (length calls + 1) (length (calls ++ call ∷ [])) (most + 1) more (omega (arith, length-append calls (call ∷ []))) (omega (arith, is))

well_later : (waiting most more : ℕ) (disk : MemDisk) → most ≤ more → IsWell (failures waiting most) disk → IsWell (failures waiting more) disk
well_later waiting most more disk less well = record { bound = well.bound; few = omega (arith, less, well.few) }

sum_is : (faults faults_after waiting : ℕ) → faults_after ≡ faults → (faults + waiting) + 1 ≡ faults_after + (waiting + 1)
sum_is faults faults_after waiting same = omega (arith, same)

well_failing : (waiting most : ℕ) (disk disk_after : MemDisk) → most_faults disk_after ≡ option_map (λ (n : ℕ). n + 1) (most_faults disk) → faults_of disk_after ≡ faults_of disk → IsWell (failures waiting most) disk
    → IsWell (failures (waiting + 1) (most + 1)) disk_after
well_failing waiting most disk disk_after raised same well = record {
  bound = raised ∙ ap (λ (bound : Option ℕ). option_map (λ (n : ℕ). n + 1) bound) well.bound ∙ ap (λ (n : ℕ). Some n) (sum_is (faults_of disk) (faults_of disk_after) waiting same);
  few = omega (arith, same, well.few);
}

-- ---- the world moves

-- The same disk, for a history that went on by steps of others, behind more events.
disk_later : (rules : Rules) (old new : History) (polls : ℕ) (early : Bool) (waiting most more : ℕ) (disk : MemDisk) → IsLater old new → most ≤ more
    → IsDiskAt rules (record { history = old; polls = polls; early = early }) (failures waiting most) disk → IsDiskAt rules (record { history = new; polls = polls; early = early }) (failures waiting more) disk
disk_later rules old new polls early waiting most more disk later less at = record {
  leaves = leaves_later rules old new polls early disk later at.leaves;
  well = well_later waiting most more disk less at.well;
}

-- behind more events
disk_more : (rules : Rules) (past : Past) (waiting most more : ℕ) (disk : MemDisk) → most ≤ more → IsDiskAt rules past (failures waiting most) disk → IsDiskAt rules past (failures waiting more) disk
disk_more rules past waiting most more disk less at = record { leaves = at.leaves; well = well_later waiting most more disk less at.well }

later_by_one : (event : WorldEvent) (old new : History) → new ≡ event ∷ old → IsLater old new
later_by_one event old new is = record { events = event ∷ []; goes_on = is }

later_same : (old new : History) → new ≡ old → IsLater old new
later_same old new is = record { events = []; goes_on = is }

-- a session's disk of which a crash may leave the same
pub ready_still : (session : Option Session) (disk disk_after : MemDisk) → log_of disk_after ≡ log_of disk → IfSome session (λ (own : Session). IsReady own disk) → IfSome session (λ (own : Session). IsReady own disk_after)
ready_still None disk disk_after same ready = tt
ready_still (Some session) disk disk_after same ready = record { session_is = ready.session_is; stands = ready_same session disk disk_after same ready.stands }

module _ (rules : Rules) (events : List Event) (life : Life) (at : IsLifeAt rules events life) where
  abbrev polls : ℕ
  polls = (counts_of events).polls

  abbrev early : Bool
  early = (counts_of events).early

  abbrev disk_waits : ℕ
  disk_waits = length (pending events).disk_fails

  abbrev tree_waits : ℕ
  tree_waits = length (pending events).tree_fails

  abbrev here : History
  here = history_of life.tree

  pub world_came : (step : WorldStep) (event : WorldEvent) (tree : MemTree) → event ≡ event_of step → is_lawful (history_of life.tree) event ≡ true
      → state_of tree ≡ planned_anew (state_of life.tree) (event ∷ (state_of life.tree).world.history) (state_of life.tree).waiting → CameTo rules events (World step) life (record life { tree = tree })
  world_came step event tree same lawful is =
      let history_is : history_of tree ≡ event_of step ∷ history_of life.tree = history_stepped event life.tree tree is ∙ ap (λ (e : WorldEvent). e ∷ history_of life.tree) same in
      let may : is_lawful (history_of life.tree) (event_of step) ≡ true = subst (λ (e : WorldEvent). is_lawful (history_of life.tree) e ≡ true) same lawful in
      record {
        comes = subst (λ (h : History). Comes rules events (course_of life) (World step) (record { history = h; disk = life.disk; has_session = is_some life.session })) (sym history_is) (steps step may);
        life_is = record {
          laws = at.laws;
          tree = tree_later (pending events).plan tree_waits (length events) (length (World step ∷ events)) tree (omega arith) (tree_stepped (pending events).plan (failures tree_waits (length events)) life.tree tree at.tree event is);
          disk = disk_later rules here (history_of tree) polls early disk_waits (length events) (length (World step ∷ events)) life.disk (later_by_one (event_of step) here (history_of tree) history_is) (omega arith) at.disk;
          session = at.session;
          stopping = at.stopping;
          polls = at.polls;
          stops = at.stops;
          reached = λ never. absurd never;
        };
      }

  pub plan_came : (calls : ℕ) (step : WorldStep) (event : WorldEvent) (tree : MemTree) → event ≡ event_of step
      → state_of tree ≡ planned_anew (state_of life.tree) (state_of life.tree).world.history ((state_of life.tree).waiting ++ (calls, event) ∷ []) → CameTo rules events (During calls step) life (record life { tree = tree })
  plan_came calls step event tree same is =
      let history_is : history_of tree ≡ history_of life.tree = history_planned calls event life.tree tree is in
      let planned : IsTreeAt ((pending events).plan ++ (calls, event) ∷ []) (failures tree_waits (length events)) tree = tree_planned (pending events).plan (failures tree_waits (length events)) life.tree tree at.tree calls event is in
      let more : IsTreeAt ((pending events).plan ++ (calls, event) ∷ []) (failures tree_waits (length (During calls step ∷ events))) tree =
      tree_later ((pending events).plan ++ (calls, event) ∷ []) tree_waits (length events) (length (During calls step ∷ events)) tree (omega arith) planned in
      record {
        comes = subst (λ (h : History). Comes rules events (course_of life) (During calls step) (record { history = h; disk = life.disk; has_session = is_some life.session })) (sym history_is) (plans calls step);
        life_is = record {
          laws = at.laws;
          tree = subst (λ (e : WorldEvent). IsTreeAt ((pending events).plan ++ (calls, e) ∷ []) (failures tree_waits (length (During calls step ∷ events))) tree) same more;
          disk = disk_later rules here (history_of tree) polls early disk_waits (length events) (length (During calls step ∷ events)) life.disk (later_same here (history_of tree) history_is) (omega arith) at.disk;
          session = at.session;
          stopping = at.stopping;
          polls = at.polls;
          stops = at.stops;
          reached = λ never. absurd never;
        };
      }

  pub stop_came : (calls outcome : ℕ) (stopping : Stopping) → halt_of stopping ≡ record { calls = calls; outcome = outcome } → CameTo rules events (Stop calls outcome) life (record life { stopping = Some stopping })
  stop_came calls outcome stopping is = record {
    comes = sets calls outcome;
    life_is = record {
      laws = at.laws;
      tree = tree_later (pending events).plan tree_waits (length events) (length (Stop calls outcome ∷ events)) life.tree (omega arith) at.tree;
      disk = disk_more rules (past_of events life) disk_waits (length events) (length (Stop calls outcome ∷ events)) life.disk (omega arith) at.disk;
      session = at.session;
      stopping = ap (λ (halt : Halt). Some halt) is;
      polls = at.polls;
      stops = at.stops;
      reached = λ never. absurd never;
    };
  }

  pub disk_failing_came : (call : ℕ) (disk : MemDisk) → most_faults disk ≡ option_map (λ (n : ℕ). n + 1) (most_faults life.disk) → faults_of disk ≡ faults_of life.disk → log_of disk ≡ log_of life.disk
      → CameTo rules events (FailDisk call) life (record life { disk = disk })
  disk_failing_came call disk raised same same_log =
      let well : IsWell (failures (disk_waits + 1) (length events + 1)) disk = well_failing disk_waits (length events) life.disk disk raised same at.disk.well in
      record {
        comes = fails_disk call disk same_log;
        life_is = record {
          laws = at.laws;
          tree = tree_later (pending events).plan tree_waits (length events) (length (FailDisk call ∷ events)) life.tree (omega arith) at.tree;
          disk = record {
            leaves = leaves_same rules (past_of events life) life.disk disk same_log at.disk.leaves;
            well = subst (λ (own : Failures). IsWell own disk) (one_failing (pending events).disk_fails call (length events) (length (FailDisk call ∷ events)) (omega arith)) well;
          };
          session = at.session;
          stopping = at.stopping;
          polls = at.polls;
          stops = at.stops;
          reached = λ never. absurd never;
        };
      }

  pub tree_failing_came : (call : ℕ) (tree : MemTree) → state_of tree ≡ with_failure (state_of life.tree) call → CameTo rules events (FailTree call) life (record life { tree = tree })
  tree_failing_came call tree is =
      let history_is : history_of tree ≡ history_of life.tree = history_failing call life.tree tree is in
      record {
        comes = subst (λ (h : History). Comes rules events (course_of life) (FailTree call) (record { history = h; disk = life.disk; has_session = is_some life.session })) (sym history_is) (fails_tree call);
        life_is = record {
          laws = at.laws;
          tree = subst (λ (own : Failures). IsTreeAt (pending events).plan own tree) (one_failing (pending events).tree_fails call (length events) (length (FailTree call ∷ events)) (omega arith))
              (tree_failing (pending events).plan (failures tree_waits (length events)) life.tree tree at.tree call is);
          disk = disk_later rules here (history_of tree) polls early disk_waits (length events) (length (FailTree call ∷ events)) life.disk (later_same here (history_of tree) history_is) (omega arith) at.disk;
          session = at.session;
          stopping = at.stopping;
          polls = at.polls;
          stops = at.stops;
          reached = λ never. absurd never;
        };
      }

-- a step that was played is lawful
pub played_lawful : (lawful : Bool) (answer : Result Unit StepFault) → ((answer ≡ Err playing.NotLawful) ↔ (lawful ≡ false)) → answer ≡ Ok tt → lawful ≡ true
played_lawful true answer both is = refl
played_lawful false answer both is = let never : ◌≡◌ {A = Result Unit StepFault} (Ok tt) (Err playing.NotLawful) = sym is ∙ both.1 refl in absurd (cc)

-- ---- stops

pub none_set : (life : Life) (events : List Event) → life.stopping ≡ None → stop_set life ≡ (pending events).stop → (pending events).stop ≡ None
none_set life events none is = sym is ∙ ap (λ (s : Option Stopping). option_map halt_of s) none

pub one_set : (life : Life) (events : List Event) (stopping : Stopping) → life.stopping ≡ Some stopping → stop_set life ≡ (pending events).stop → (pending events).stop ≡ Some (halt_of stopping)
one_set life events stopping some is = sym is ∙ ap (λ (s : Option Stopping). option_map halt_of s) some

-- the counts behind a poll or an opening that no stop ended
stops_still : (count : ℕ) (events : List Event) → count ≡ (counts_of events).stops → (pending events).stop ≡ None → count ≡ (counts_of events).stops + stops_by (pending events).stop
stops_still count events is none = let zero_is : stops_by (pending events).stop ≡ 0 = ap stops_by none in omega (arith, is, zero_is)

stops_raised : (count raised_count : ℕ) (halt : Halt) (events : List Event) → count ≡ (counts_of events).stops → (pending events).stop ≡ Some halt → raised_count ≡ min (count + 1) 18446744073709551615 → AreFew events
    → raised_count ≡ (counts_of events).stops + stops_by (pending events).stop
stops_raised count raised_count halt events is some raised few = let one_is : stops_by (pending events).stop ≡ 1 = ap stops_by some in omega (arith, is, one_is, raised, few, stops_within events)

-- ---- openings

opens_comes : (rules : Rules) (events : List Event) (old : Course) (disk : MemDisk) (opened : Option Session) → old.has_session ≡ false → (pending events).stop ≡ None → Passes disk_images Reopens old.disk disk
    → Opens rules (waits_of events).disk opened → Comes rules events old Reopen (record { history = old.history; disk = disk; has_session = is_some opened })
opens_comes rules events old disk None closed unset passes fails = opens_failed disk closed unset (some_fail (pending events).disk_fails fails) passes
opens_comes rules events old disk (Some session) closed unset passes is = opens disk closed unset passes

session_opened : (rules : Rules) (waiting : Failures) (opened : Option Session) → Opens rules waiting opened → IfSome opened (IsOpened rules)
session_opened rules waiting None fails = tt
session_opened rules waiting (Some session) is = is

-- a call on the tree that is to fail is dropped at an opening
cleared_at : (rules : Rules) (events : List Event) (event : Event) (life : Life) (tree : MemTree) → state_of tree ≡ unplanned (state_of life.tree) → IsLifeAt rules events life → IsTreeAt [] (failures 0 (length (event ∷ events))) tree
cleared_at rules events event life tree is at =
    tree_later [] 0 (length events) (length (event ∷ events)) tree (omega arith)
    (tree_cleared (failures (length (pending events).tree_fails) (length events)) life.tree tree is at.tree.told (omega (arith, at.tree.few)))

-- what an opening keeps of a disk, behind one event more
disk_opened : (rules : Rules) (events : List Event) (event : Event) (life : Life) (tree : MemTree) (disk : MemDisk) → state_of tree ≡ unplanned (state_of life.tree)
    → ((past : Past) (own : Failures) → IsDiskAt rules past own life.disk → IsDiskAt rules past (dropped own) disk) → IsLifeAt rules events life
    → IsDiskAt rules (record { history = history_of tree; polls = (counts_of events).polls; early = (counts_of events).early }) (failures 0 (length (event ∷ events))) disk
disk_opened rules events event life tree disk is keeps at =
    let past : Past = record { history = history_of tree; polls = (counts_of events).polls; early = (counts_of events).early } in
    let waiting : ℕ = length (pending events).disk_fails in
    let history_is : history_of tree ≡ history_of life.tree = history_cleared life.tree tree is in
    disk_more rules past 0 (length events) (length (event ∷ events)) disk (omega arith)
    (keeps past (failures waiting (length events))
    (disk_later rules (history_of life.tree) (history_of tree) (counts_of events).polls (counts_of events).early waiting (length events) (length events) life.disk (later_same (history_of life.tree) (history_of tree) history_is) (omega arith) at.disk))

pub opening_came : (rules : Rules) (events : List Event) (life : Life) (tree : MemTree) (disk : MemDisk) (opened : Option Session)
    → life.stopping ≡ None → is_some life.session ≡ false → state_of tree ≡ unplanned (state_of life.tree) → Opens rules (waits_of events).disk opened → Passes disk_images Reopens life.disk disk
    → ((past : Past) (own : Failures) → IsDiskAt rules past own life.disk → IsDiskAt rules past (dropped own) disk)
    → IsLifeAt rules events life → CameTo rules events Reopen life (record life { tree = tree; disk = disk; session = opened; stopping = None })
opening_came rules events life tree disk opened none closed is opens_by passes keeps at =
    let history_is : history_of tree ≡ history_of life.tree = history_cleared life.tree tree is in
    let unset : (pending events).stop ≡ None = none_set life events none at.stopping in
    record {
      comes = subst (λ (h : History). Comes rules events (course_of life) Reopen (record { history = h; disk = disk; has_session = is_some opened })) (sym history_is) (opens_comes rules events (course_of life) disk opened closed unset passes opens_by);
      life_is = record {
        laws = at.laws;
        tree = cleared_at rules events Reopen life tree is at;
        disk = disk_opened rules events Reopen life tree disk is keeps at;
        session = session_opened rules (waits_of events).disk opened opens_by;
        stopping = refl;
        polls = at.polls;
        stops = stops_still life.stops events at.stops unset;
        reached = λ never. absurd never;
      };
    }

pub stopped_opening_came : (rules : Rules) (events : List Event) (life : Life) (tree : MemTree) (disk : MemDisk) (stopping : Stopping) (stops : ℕ)
    → life.stopping ≡ Some stopping → is_some life.session ≡ false → state_of tree ≡ unplanned (state_of life.tree) → stops ≡ min (life.stops + 1) 18446744073709551615 → AreFew events
    → IsStopped (halt_of stopping) life.disk disk → ((past : Past) (own : Failures) → IsDiskAt rules past own life.disk → IsDiskAt rules past (dropped own) disk)
    → IsLifeAt rules events life → CameTo rules events Reopen life (record life { tree = tree; disk = disk; stopping = None; stops = stops })
stopped_opening_came rules events life tree disk stopping stops some closed is raised few stopped keeps at =
    let history_is : history_of tree ≡ history_of life.tree = history_cleared life.tree tree is in
    let set : (pending events).stop ≡ Some (halt_of stopping) = one_set life events stopping some at.stopping in
    record {
      comes = subst (λ (b : Bool). Comes rules events (course_of life) Reopen (record { history = history_of tree; disk = disk; has_session = b })) (sym closed)
          (subst (λ (h : History). Comes rules events (course_of life) Reopen (record { history = h; disk = disk; has_session = false })) (sym history_is) (opens_stopped (halt_of stopping) disk closed set stopped));
      life_is = record {
        laws = at.laws;
        tree = cleared_at rules events Reopen life tree is at;
        disk = disk_opened rules events Reopen life tree disk is keeps at;
        session = at.session;
        stopping = refl;
        polls = at.polls;
        stops = stops_raised life.stops stops (halt_of stopping) events at.stops set raised few;
        reached = λ never. absurd never;
      };
    }

-- ---- polls

polls_raised : (count raised_count : ℕ) (events : List Event) → count ≡ (counts_of events).polls → raised_count ≡ min (count + 1) 18446744073709551615 → AreFew events → raised_count ≡ (counts_of events).polls + 1
polls_raised count raised_count events is raised few = omega (arith, is, raised, few, polls_within events)

-- what a life has for its session's poll
pub may_poll : (rules : Rules) (events : List Event) (life : Life) (session : Session) → life.session ≡ Some session → AreFew events → IsLifeAt rules events life → MayPoll rules (waits_of events) (past_of events life) session life.tree life.disk
may_poll rules events life session has few at = record {
  laws = at.laws;
  opened = subst (λ (s : Option Session). IfSome s (IsOpened rules)) has at.session;
  tree_is = at.tree;
  history_is = refl;
  few = omega (arith, few, polls_within events);
  few_tree = few;
  few_disk = few;
  disk_is = at.disk;
}

has_session : (life : Life) (session : Session) → life.session ≡ Some session → is_some life.session ≡ true
has_session life session has = ap (λ (s : Option Session). is_some s) has

poll_comes : (rules : Rules) (events : List Event) (old : Course) (new : History) (disk : MemDisk) (next : Option Session) → old.has_session ≡ true → (pending events).stop ≡ None → GoesBy (pending events).plan old.history new
    → GoesOn rules (waits_of events) new disk next → Comes rules events old Poll (record { history = new; disk = disk; has_session = is_some next })
poll_comes rules events old new disk None there unset goes (inl fails) = polls_failed new disk there unset goes (some_fail (pending events).disk_fails fails)
poll_comes rules events old new disk None there unset goes (inr fill) = polls_full new disk there unset goes fill
poll_comes rules events old new disk (Some next) there unset goes on = polls_on new disk there unset goes

next_opened : (rules : Rules) (waits : Waits) (new : History) (disk : MemDisk) (next : Option Session) → GoesOn rules waits new disk next → IfSome next (IsOpened rules)
next_opened rules waits new disk None on = tt
next_opened rules waits new disk (Some next) on = on.0

-- for which nothing waited
next_reaches : (rules : Rules) (waits : Waits) (new : History) (disk : MemDisk) (next : Option Session) → GoesOn rules waits new disk next → waits.plan ≡ [] → waits.tree.waiting ≡ 0 → waits.disk.waiting ≡ 0 → (Large rules new → ⊥) → ReachesAll rules new disk
next_reaches rules waits new disk None (inl fails) none none_tree none_disk small = absurd (omega (arith, fails, none_disk))
next_reaches rules waits new disk None (inr fill) none none_tree none_disk small = λ takes little. absurd (small (fill takes))
next_reaches rules waits new disk (Some next) on none none_tree none_disk small = on.1 none none_tree

pub poll_came : (rules : Rules) (events : List Event) (life : Life) (session : Session) (tree : MemTree) (disk : MemDisk) (next : Option Session) (count : ℕ)
    → life.session ≡ Some session → life.stopping ≡ None → count ≡ min (life.polls + 1) 18446744073709551615 → AreFew events
    → IsTreePolled (waits_of events) life.tree tree → IsDiskAt rules (polled (past_of events life) (history_of tree) false) (dropped (waits_of events).disk) disk → GoesOn rules (waits_of events) (history_of tree) disk next
    → IsLifeAt rules events life → CameTo rules events Poll life (record life { tree = tree; disk = disk; session = next; stopping = None; polls = count })
poll_came rules events life session tree disk next count has none raised few goes disk_at on at =
    let unset : (pending events).stop ≡ None = none_set life events none at.stopping in
    record {
      comes = poll_comes rules events (course_of life) (history_of tree) disk next (has_session life session has) unset goes.goes on;
      life_is = record {
        laws = at.laws;
        tree = tree_later [] 0 (length events) (length (Poll ∷ events)) tree (omega arith) goes.at;
        disk = subst (λ (stop : Option Halt). IsDiskAt rules (polled (past_of events life) (history_of tree) (is_early stop)) (failures 0 (length (Poll ∷ events))) disk) (sym unset)
            (disk_more rules (polled (past_of events life) (history_of tree) false) 0 (length events) (length (Poll ∷ events)) disk (omega arith) disk_at);
        session = next_opened rules (waits_of events) (history_of tree) disk next on;
        stopping = refl;
        polls = polls_raised life.polls count events at.polls raised few;
        stops = stops_still life.stops events at.stops unset;
        reached = λ ends small.
            next_reaches rules (waits_of events) (history_of tree) disk next on (ap (λ (waits : Pending). waits.plan) ends) (ap (λ (waits : Pending). length waits.tree_fails) ends) (ap (λ (waits : Pending). length waits.disk_fails) ends) small;
      };
    }

some_not_none : (halt : Halt) (option : Option Halt) → option ≡ Some halt → option ≡ None → ⊥
some_not_none halt option is none = let never : Some halt ≡ None = sym is ∙ none in cc

pub stopped_poll_came : (rules : Rules) (events : List Event) (life : Life) (session : Session) (tree : MemTree) (disk : MemDisk) (stopping : Stopping) (count stops : ℕ)
    → life.session ≡ Some session → life.stopping ≡ Some stopping → count ≡ min (life.polls + 1) 18446744073709551615 → stops ≡ min (life.stops + 1) 18446744073709551615 → AreFew events
    → IsTreePolled (waits_of events) life.tree tree → IsDiskAt rules (polled (past_of events life) (history_of tree) (is_early (Some (halt_of stopping)))) (dropped (waits_of events).disk) disk → IsStopped (halt_of stopping) life.disk disk
    → IsLifeAt rules events life → CameTo rules events Poll life (record life { tree = tree; disk = disk; session = None; stopping = None; polls = count; stops = stops })
stopped_poll_came rules events life session tree disk stopping count stops has some raised raised_stops few goes disk_at stopped at =
    let set : (pending events).stop ≡ Some (halt_of stopping) = one_set life events stopping some at.stopping in
    record {
      comes = polls_stopped (halt_of stopping) (history_of tree) disk (has_session life session has) set goes.goes stopped;
      life_is = record {
        laws = at.laws;
        tree = tree_later [] 0 (length events) (length (Poll ∷ events)) tree (omega arith) goes.at;
        disk = subst (λ (stop : Option Halt). IsDiskAt rules (polled (past_of events life) (history_of tree) (is_early stop)) (failures 0 (length (Poll ∷ events))) disk) (sym set)
            (disk_more rules (polled (past_of events life) (history_of tree) (is_early (Some (halt_of stopping)))) 0 (length events) (length (Poll ∷ events)) disk (omega arith) disk_at);
        session = tt;
        stopping = refl;
        polls = polls_raised life.polls count events at.polls raised few;
        stops = stops_raised life.stops stops (halt_of stopping) events at.stops set raised_stops few;
        reached = λ ends. absurd (some_not_none (halt_of stopping) (pending events).stop set (ap (λ (waits : Pending). waits.stop) ends));
      };
    }

-- ---- what was taken out of a life is none

module _ (rules : Rules) (events : List Event) (event : Event) (life after : Life) where
  pub with_no_stop : (cleared : Option Stopping) → cleared ≡ None → CameTo rules events event life (record after { stopping = None }) → CameTo rules events event life (record after { stopping = cleared })
  with_no_stop cleared is came = subst (λ (set : Option Stopping). CameTo rules events event life (record after { stopping = set })) (sym is) came

  pub with_no_session : (left : Option Session) → left ≡ None → CameTo rules events event life (record after { session = None }) → CameTo rules events event life (record after { session = left })
  with_no_session left is came = subst (λ (own : Option Session). CameTo rules events event life (record after { session = own })) (sym is) came

-- ---- what every life owes

pub opening_cant : (text : List ℕ) (at : ℕ) (event : Event) (course : Course) (fault : ScriptFault) → CantOpenBy text fault → Cant text at event course fault
opening_cant text at event course (Setup fault) cant = cant
opening_cant text at event course (NotOpen _) cant = absurd cant
opening_cant text at event course (AlreadyOpen _) cant = absurd cant
opening_cant text at event course (NotLawful _) cant = absurd cant
opening_cant text at event course Memory cant = tt

-- a new life
pub life_begins : (rules : Rules) (life : Life) → AreRules rules → state_of life.tree ≡ empty_tree → LeavesAt rules (record { history = []; polls = 0; early = true }) life.disk → IsFresh life.disk
    → life.session ≡ None → life.stopping ≡ None → life.polls ≡ 0 → life.stops ≡ 0 → IsLifeAt rules [] life
life_begins rules life laws empty leaves fresh closed unset polls stops =
    let history_is : history_of life.tree ≡ [] = history_begins life.tree empty in
    record {
      laws = laws;
      tree = tree_begins life.tree empty;
      disk = record { leaves = subst (λ (h : History). LeavesAt rules (record { history = h; polls = 0; early = true }) life.disk) (sym history_is) leaves; well = well_fresh (failures 0 0) life.disk fresh };
      session = subst (λ (s : Option Session). IfSome s (IsOpened rules)) (sym closed) tt;
      stopping = ap (λ (s : Option Stopping). option_map halt_of s) unset;
      polls = polls;
      stops = stops;
      reached = λ never. absurd never;
    }
