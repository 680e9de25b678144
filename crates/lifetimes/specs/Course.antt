-- The courses that the world and the disk may take beside a script, event by event.
use Rattle.std.specs.Prelude.{◌≡◌, ◌≢◌, ℕ, true, false, Bool, List, [], ◌∷◌, length, None, Some, IsTrue}
use Rattle.lifetimes.specs.Large.{Large}
use Rattle.lifetimes.specs.Script.{Halt, pending}
use Rattle.lifetimes.specs.Stopped.{IsStopped}
use Rattle.lifetimes.specs.Whole.{TakesWhole}
use Rattle.lifetimes.specs.declared.event.Event.{Event}
use Rattle.lifetimes.specs.declared.event.Event.TheVariants.{World, During, Poll, Stop, FailDisk, FailTree, Reopen}
use Rattle.mem_world.specs.MemDisk.{disk_images, history_of, seen_of}
use Rattle.mem_world.specs.WorldSteps.{event_of}
use Rattle.mem_world.specs.declared.disk.MemDisk.{MemDisk}
use Rattle.mem_world.specs.declared.world.WorldStep.{WorldStep}
use Rattle.outside.specs.Crash.{Passes}
use Rattle.outside.specs.Lawful.{is_lawful}
use Rattle.outside.specs.Plan.{Follows}
use Rattle.outside.specs.World.{Event as WorldEvent, History}
use Rattle.outside.specs.declared.disk.DiskFile.{DiskFile}
use Rattle.poll_core.specs.Reopens.{Reopens}
use Rattle.standing.specs.Moments.{IsLater}
use Rattle.standing.specs.Rules.{Rules}

-- how far the world has come, what the disk is, and whether there is a session
pub record Course : Type 0 where
  pub history : History
  pub disk : MemDisk
  pub has_session : Bool

-- The history goes on, and what it goes on by follows the plan.
pub record GoesBy (plan : List (ℕ × WorldEvent)) (old new : History) : Type 0 where
  pub later : IsLater old new
  pub follows : Follows (record { steps = plan; since = length old }) new

-- Lines aren't taken whole, or the files may have more of them than an output has room for.
abbrev pub MayFill : Rules → History → Type 0
MayFill rules history = TakesWhole rules history → Large rules history

-- What an event makes of a course, behind the events before it.
pub data Comes (rules : Rules) (before : List Event) (old : Course) : Event → Course → Type 0 where
  -- the step alone happens
  steps : (step : WorldStep) → IsTrue (is_lawful old.history (event_of step)) → Comes rules before old (World step) (record old { history = event_of step ∷ old.history })
  plans : (calls : ℕ) (step : WorldStep) → Comes rules before old (During calls step) old
  sets : (calls outcome : ℕ) → Comes rules before old (Stop calls outcome) old
  fails_disk : (call : ℕ) (disk : MemDisk) → history_of disk ≡ history_of old.disk → Comes rules before old (FailDisk call) (record old { disk = disk })
  fails_tree : (call : ℕ) → Comes rules before old (FailTree call) old
  opens : (disk : MemDisk) → old.has_session ≡ false → (pending before).stop ≡ None → Passes disk_images Reopens old.disk disk
      → Comes rules before old Reopen (record { history = old.history; disk = disk; has_session = true })
  -- a call on the disk was to fail
  opens_failed : (disk : MemDisk) → old.has_session ≡ false → (pending before).stop ≡ None → (pending before).disk_fails ≢ [] → Passes disk_images Reopens old.disk disk
      → Comes rules before old Reopen (record { history = old.history; disk = disk; has_session = false })
  opens_stopped : (halt : Halt) (disk : MemDisk) → old.has_session ≡ false → (pending before).stop ≡ Some halt → IsStopped halt old.disk disk
      → Comes rules before old Reopen (record { history = old.history; disk = disk; has_session = false })
  polls_on : (new : History) (disk : MemDisk) → old.has_session ≡ true → (pending before).stop ≡ None → GoesBy (pending before).plan old.history new
      → Comes rules before old Poll (record { history = new; disk = disk; has_session = true })
  -- the output would have got too long
  polls_full : (new : History) (disk : MemDisk) → old.has_session ≡ true → (pending before).stop ≡ None → GoesBy (pending before).plan old.history new → MayFill rules new
      → Comes rules before old Poll (record { history = new; disk = disk; has_session = false })
  -- a call on the disk was to fail
  polls_failed : (new : History) (disk : MemDisk) → old.has_session ≡ true → (pending before).stop ≡ None → GoesBy (pending before).plan old.history new → (pending before).disk_fails ≢ []
      → Comes rules before old Poll (record { history = new; disk = disk; has_session = false })
  polls_stopped : (halt : Halt) (new : History) (disk : MemDisk) → old.has_session ≡ true → (pending before).stop ≡ Some halt → GoesBy (pending before).plan old.history new
      → IsStopped halt old.disk disk → Comes rules before old Poll (record { history = new; disk = disk; has_session = false })

-- The world and the disk are empty, and there is no session.
pub record Begins (course : Course) : Type 0 where
  pub history : course.history ≡ []
  pub disk : (file : DiskFile) → seen_of course.disk file ≡ []
  pub closed : course.has_session ≡ false

-- These events, the newest first, lead from an empty world and an empty disk without a session to the course. After each of them
-- the history had the length that its mark tells.
pub data Runs (rules : Rules) : List Event → List ℕ → Course → Type 0 where
  begins : (course : Course) → Begins course → Runs rules [] [] course
  goes_on : (event : Event) (before : List Event) (marks : List ℕ) (old new : Course) → Runs rules before marks old → Comes rules before old event new
      → Runs rules (event ∷ before) (length new.history ∷ marks) new
