-- What a life has come to behind some events of its script. The newest event comes first.
use Rattle.std.specs.Prelude.{◌≡◌, ◌<◌, ℕ, List, ◌∷◌, length, Option, option_map, is_some, IfSome, ⊤}
use Rattle.lifetimes.specs.Course.{Course, Comes}
use Rattle.lifetimes.specs.Ended.{history_of, CantPoll, CantOpen, CantStep}
use Rattle.lifetimes.specs.Large.{Large}
use Rattle.lifetimes.specs.Inner.Past.{Past, Failures, Waits, IsTreeAt, IsDiskAt, IsReady, IsOpened, ReachesAll}
use Rattle.lifetimes.specs.Refusal.{IsSetup}
use Rattle.lifetimes.specs.Script.{Halt, pending, counts_of, EndsUndisturbed}
use Rattle.lifetimes.specs.Stopped.{halt_of}
use Rattle.lifetimes.specs.declared.event.Event.{Event}
use Rattle.lifetimes.specs.declared.fault.ScriptFault.{ScriptFault}
use Rattle.lifetimes.specs.declared.fault.ScriptFault.TheVariants.{Setup, NotOpen, AlreadyOpen, NotLawful, Memory}
use Rattle.lifetimes.specs.declared.life.Life.{Life}
use Rattle.standing.specs.AreRules.{AreRules}
use Rattle.standing.specs.Rules.{Rules}

abbrev pub past_of : List Event → Life → Past
past_of events life = record { history = history_of life.tree; polls = (counts_of events).polls; early = (counts_of events).early }

-- the stop that is set
abbrev pub stop_set : Life → Option Halt
stop_set life = option_map halt_of life.stopping

-- No more calls have failed, or are to, than there were events.
abbrev pub failures_of : List ℕ → List Event → Failures
failures_of calls events = record { waiting = length calls; most = length events }

abbrev pub waits_of : List Event → Waits
waits_of events = record {
  plan = (pending events).plan;
  tree = failures_of (pending events).tree_fails events;
  disk = failures_of (pending events).disk_fails events;
}

-- where there is a session, its disk is ready for it
abbrev pub IsReadyLife : Life → Type 0
IsReadyLife life = IfSome life.session (λ session. IsReady session life.disk)

pub record IsLifeAt (rules : Rules) (events : List Event) (life : Life) : Type 0 where
  pub laws : AreRules rules
  pub tree : IsTreeAt (waits_of events).plan (waits_of events).tree life.tree
  pub disk : IsDiskAt rules (past_of events life) (waits_of events).disk life.disk
  pub session : IfSome life.session (IsOpened rules)
  pub stopping : stop_set life ≡ (pending events).stop
  pub polls : life.polls ≡ (counts_of events).polls
  pub stops : life.stops ≡ (counts_of events).stops
  pub reached : EndsUndisturbed events → (Large rules (history_of life.tree) → ⊥) → ReachesAll rules (history_of life.tree) life.disk

abbrev pub course_of : Life → Course
course_of life = record { history = history_of life.tree; disk = life.disk; has_session = is_some life.session }

-- no script has more events
abbrev pub AreFew : List Event → Type 0
AreFew events = length events < 18446744073709551615

-- The event came behind these.
pub record CameTo (rules : Rules) (events : List Event) (event : Event) (old new : Life) : Type 0 where
  pub comes : Comes rules events (course_of old) event (course_of new)
  pub life_is : IsLifeAt rules (event ∷ events) new

-- why an event at this place couldn't come
abbrev pub Cant : List ℕ → ℕ → Event → Course → ScriptFault → Type 0
Cant text at event course (Setup fault) = IsSetup text fault
Cant text at event course (NotOpen here) = (here ≡ at) × CantPoll event course
Cant text at event course (AlreadyOpen here) = (here ≡ at) × CantOpen event course
Cant text at event course (NotLawful here) = (here ≡ at) × CantStep event course
Cant text at event course Memory = ⊤
