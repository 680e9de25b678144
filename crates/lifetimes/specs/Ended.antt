-- What a script ends with.
use Rattle.std.specs.Prelude.{◌≡◌, ℕ, Bool, true, false, List, take, reverse, None, Some, slice_get, IsTrue, ⊤}
use Rattle.lifetimes.specs.Course.{Course, Runs}
use Rattle.lifetimes.specs.Large.{Large}
use Rattle.lifetimes.specs.OneEra.{IsSoundBy, one_era}
use Rattle.lifetimes.specs.Refusal.{IsSetup}
use Rattle.lifetimes.specs.Script.{counts_of, EndsUndisturbed}
use Rattle.lifetimes.specs.Small.{IsSmall, IsReachedIn}
use Rattle.lifetimes.specs.Whole.{TakesWhole}
use Rattle.lifetimes.specs.declared.ending.Ending.{Ending}
use Rattle.lifetimes.specs.declared.event.Event.{Event}
use Rattle.lifetimes.specs.declared.event.Event.TheVariants.{World, Poll, Reopen}
use Rattle.lifetimes.specs.declared.fault.ScriptFault.{ScriptFault}
use Rattle.lifetimes.specs.declared.fault.ScriptFault.TheVariants.{Setup, NotOpen, AlreadyOpen, NotLawful, Memory}
use Rattle.mem_world.specs.MemDisk.{disk_images}
use Rattle.mem_world.specs.MemTree.{state_of}
use Rattle.mem_world.specs.WorldSteps.{event_of}
use Rattle.mem_world.specs.declared.disk.MemDisk.{MemDisk}
use Rattle.mem_world.specs.declared.tree.MemTree.{MemTree}
use Rattle.mem_world.specs.declared.world.WorldStep.{WorldStep}
use Rattle.outside.specs.Lawful.{is_lawful}
use Rattle.outside.specs.World.{History}
use Rattle.pipeline.specs.MadeOf.{HasRules}
use Rattle.poll_core.specs.Polled.{IsStanding}
use Rattle.slot_store.specs.ChosenSlot.{chosen_slot}
use Rattle.slot_store.specs.Synced.{EachLeft}
use Rattle.standing.specs.Rules.{Rules}

-- ---- endings

abbrev pub history_of : MemTree → History
history_of tree = (state_of tree).world.history

abbrev pub AllSound : Rules → MemDisk → Type 0
AllSound rules disk = EachLeft disk_images disk (IsSoundBy rules)

abbrev pub AllStand : History → MemDisk → Type 0
AllStand history disk = EachLeft disk_images disk (IsStanding history)

abbrev pub AllReached : Rules → History → MemDisk → Type 0
AllReached rules history disk = EachLeft disk_images disk (IsReachedIn (one_era rules) history)

abbrev pub NoneOpen : MemDisk → Type 0
NoneOpen disk = EachLeft disk_images disk (λ image. chosen_slot image ≡ None)

-- The events are those of the script, the newest first.
pub record IsEndingBy (rules : Rules) (events : List Event) (ending : Ending) : Type 0 where
  -- The world and the disk took a course that the script allows, and the marks tell where each event ended.
  pub has_session : Bool
  pub runs : Runs rules events (reverse ending.marks.items) (record { history = history_of ending.tree; disk = ending.disk; has_session = has_session })
  -- Whatever a crash may leave is of these settings alone, and fits its output.
  pub sound : AllSound rules ending.disk
  -- Where lines are taken whole, it stands for the history.
  pub standing : TakesWhole rules (history_of ending.tree) → AllStand (history_of ending.tree) ending.disk
  -- After a poll that nothing disturbed, a small history's files are taken as a whole, unless they have too many lines.
  pub reached : TakesWhole rules (history_of ending.tree) → EndsUndisturbed events → IsSmall (history_of ending.tree)
      → (Large rules (history_of ending.tree) → ⊥) → AllReached rules (history_of ending.tree) ending.disk
  -- Where each poll was stopped before its fourth call, nothing was committed.
  pub none_open : IsTrue (counts_of events).early → NoneOpen ending.disk
  pub polls : ending.polls ≡ (counts_of events).polls
  pub stops : ending.stops ≡ (counts_of events).stops

-- an ending of the script with the settings that this text says
pub record IsEnding (text : List ℕ) (script : List Event) (ending : Ending) : Type 0 where
  pub rules : Rules
  pub rules_are : HasRules text rules
  pub ends : IsEndingBy rules (reverse script) ending

-- ---- faults

abbrev pub CantPoll : Event → Course → Type 0
CantPoll event course = (event ≡ Poll) × (course.has_session ≡ false)

abbrev pub CantOpen : Event → Course → Type 0
CantOpen event course = (event ≡ Reopen) × (course.has_session ≡ true)

abbrev pub CantStep : Event → Course → Type 0
CantStep event course = (step : WorldStep) × (event ≡ World step) × (is_lawful course.history (event_of step) ≡ false)

-- The events before this place may lead to a course in which the event there can't come, and did so.
pub record FailsAt (text : List ℕ) (script : List Event) (at : ℕ) (cant : Event → Course → Type 0) : Type 0 where
  pub rules : Rules
  pub rules_are : HasRules text rules
  pub event : Event
  pub there : slice_get script at ≡ Some event
  pub marks : List ℕ
  pub course : Course
  pub runs : Runs rules (reverse (take at script)) marks course
  pub fails : cant event course

abbrev pub IsScriptFault : List ℕ → List Event → ScriptFault → Type 0
IsScriptFault text script (Setup fault) = IsSetup text fault
IsScriptFault text script (NotOpen at) = FailsAt text script at CantPoll
IsScriptFault text script (AlreadyOpen at) = FailsAt text script at CantOpen
IsScriptFault text script (NotLawful at) = FailsAt text script at CantStep
IsScriptFault text script Memory = ⊤
