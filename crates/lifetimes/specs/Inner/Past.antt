-- What the past means for the world, for the disk and for a session.
use Rattle.std.specs.Prelude.{◌≡◌, ◌⊎◌, ◌≤◌, ◌<◌, ℕ, ◌+◌, Bool, true, ◌&&◌, List, [], length, Option, None, Some, IsTrue, ⊤}
use Rattle.checkpoint_store.specs.Limits.{output_limit}
use Rattle.lifetimes.specs.Course.{GoesBy, MayFill}
use Rattle.lifetimes.specs.Ended.{history_of, AllReached}
use Rattle.lifetimes.specs.OneEra.{IsSoundBy, one_era}
use Rattle.lifetimes.specs.Refusal.{IsSetup}
use Rattle.lifetimes.specs.Small.{IsSmall}
use Rattle.lifetimes.specs.Whole.{TakesWhole}
use Rattle.lifetimes.specs.declared.fault.ScriptFault.{ScriptFault}
use Rattle.lifetimes.specs.declared.fault.ScriptFault.TheVariants.{Setup, NotOpen, AlreadyOpen, NotLawful, Memory}
use Rattle.mem_world.specs.MemDisk.{disk_images, faults_of, most_faults}
use Rattle.mem_world.specs.MemTree.{state_of}
use Rattle.mem_world.specs.declared.disk.MemDisk.{MemDisk}
use Rattle.mem_world.specs.declared.tree.MemTree.{MemTree}
use Rattle.outside.specs.Image.{Image}
use Rattle.outside.specs.World.{Event as WorldEvent, History}
use Rattle.outside.specs.declared.disk.DiskFile.{DiskFile}
use Rattle.poll_core.specs.IsSession.{IsSession}
use Rattle.poll_core.specs.Polled.{IsStanding}
use Rattle.poll_core.specs.Sequence.{HasSequence}
use Rattle.poll_core.specs.SessionParts.{rules_of_session, limit_of}
use Rattle.poll_core.specs.StandsOn.{StandsOn}
use Rattle.poll_core.specs.declared.session.Session.{Session}
use Rattle.slot_store.specs.ChosenSlot.{chosen_slot}
use Rattle.slot_store.specs.Synced.{EachLeft}
use Rattle.standing.specs.AreRules.{AreRules}
use Rattle.standing.specs.Eras.{texts_of}
use Rattle.standing.specs.Rules.{Rules}

-- ---- the world

-- how many calls are still to fail, and how many have failed or are to at most
pub record Failures : Type 0 where
  pub waiting : ℕ
  pub most : ℕ

-- none waits any more
abbrev pub dropped : Failures → Failures
dropped failures = record failures { waiting = 0 }

-- These steps wait, and no call fails but those that are to.
pub record IsTreeAt (plan : List (ℕ × WorldEvent)) (failures : Failures) (tree : MemTree) : Type 0 where
  pub waiting : (state_of tree).waiting ≡ plan
  pub plan_is : (state_of tree).plan ≡ record { steps = plan; since = length (history_of tree) }
  pub spare : (state_of tree).spare ≡ failures.waiting
  pub few : (state_of tree).faults + failures.waiting ≤ failures.most
  pub told : (state_of tree).told ≡ true

-- ---- the disk

-- what counts of the past for what a crash may leave
pub record Past : Type 0 where
  pub history : History
  pub polls : ℕ
  -- each poll was stopped before its fourth call
  pub early : Bool

-- The image may be left: it is sound by these settings alone, and stands where lines are taken whole. No more commits than polls
-- were made, and none in polls that were stopped early.
pub record IsLeftAt (rules : Rules) (past : Past) (image : Image DiskFile) : Type 0 where
  pub sound : IsSoundBy rules image
  pub standing : TakesWhole rules past.history → IsStanding past.history image
  pub numbered : (sequence : ℕ) → HasSequence image sequence → sequence ≤ past.polls
  pub none_open : IsTrue past.early → chosen_slot image ≡ None

abbrev pub LeavesAt : Rules → Past → MemDisk → Type 0
LeavesAt rules past disk = EachLeft disk_images disk (IsLeftAt rules past)

-- no call fails but those that are to
pub record IsWell (failures : Failures) (disk : MemDisk) : Type 0 where
  pub bound : most_faults disk ≡ Some (faults_of disk + failures.waiting)
  pub few : faults_of disk + failures.waiting ≤ failures.most

pub record IsDiskAt (rules : Rules) (past : Past) (failures : Failures) (disk : MemDisk) : Type 0 where
  pub leaves : LeavesAt rules past disk
  pub well : IsWell failures disk

-- one more poll, which committed at most once
abbrev pub polled : Past → History → Bool → Past
polled past history early = record { history = history; polls = past.polls + 1; early = past.early && early }

-- ---- the session

-- what every session asks of its disk
pub record IsReady (session : Session) (disk : MemDisk) : Type 0 where
  pub session_is : IsSession session
  pub stands : StandsOn disk_images session disk

-- its settings were never changed
pub record IsOpened (rules : Rules) (session : Session) : Type 0 where
  pub eras : session.eras ≡ texts_of (one_era rules)
  pub rules_are : rules_of_session session ≡ rules
  pub limit : limit_of session ≡ output_limit

-- A poll that nothing disturbed took all files of a small history as a whole.
abbrev pub ReachesAll : Rules → History → MemDisk → Type 0
ReachesAll rules history disk = TakesWhole rules history → IsSmall history → AllReached rules history disk

-- what waits for a poll: steps, and failures of the tree and of the disk
pub record Waits : Type 0 where
  pub plan : List (ℕ × WorldEvent)
  pub tree : Failures
  pub disk : Failures

-- The poll's session goes on. Or there is none, and a call on the disk was to fail, or the output may have been full.
abbrev pub GoesOn : Rules → Waits → History → MemDisk → Option Session → Type 0
GoesOn rules waits history disk None = (0 < waits.disk.waiting) ⊎ MayFill rules history
GoesOn rules waits history disk (Some next) = IsOpened rules next × (waits.plan ≡ [] → waits.tree.waiting ≡ 0 → ReachesAll rules history disk)

-- An opening gives a session, or none where a call on the disk was to fail.
abbrev pub Opens : Rules → Failures → Option Session → Type 0
Opens rules failures None = 0 < failures.waiting
Opens rules failures (Some session) = IsOpened rules session

-- ---- polls

-- The session polls this tree and this disk, behind this past.
pub record MayPoll (rules : Rules) (waits : Waits) (past : Past) (session : Session) (tree : MemTree) (disk : MemDisk) : Type 0 where
  pub laws : AreRules rules
  pub opened : IsOpened rules session
  pub tree_is : IsTreeAt waits.plan waits.tree tree
  pub history_is : past.history ≡ history_of tree
  pub few : past.polls < 18446744073709551615
  pub few_tree : waits.tree.most < 18446744073709551615
  pub few_disk : waits.disk.most < 18446744073709551615
  pub disk_is : IsDiskAt rules past waits.disk disk

-- The tree went on by the plan, and nothing waits any more.
pub record IsTreePolled (waits : Waits) (old new : MemTree) : Type 0 where
  pub goes : GoesBy waits.plan (history_of old) (history_of new)
  pub at : IsTreeAt [] (dropped waits.tree) new
  pub later : (state_of old).faults ≤ (state_of new).faults
  pub few : (state_of new).faults ≤ (state_of old).faults + waits.tree.waiting

-- why no session could be opened
abbrev pub CantOpenBy : List ℕ → ScriptFault → Type 0
CantOpenBy text (Setup fault) = IsSetup text fault
CantOpenBy text (NotOpen at) = ⊥
CantOpenBy text (AlreadyOpen at) = ⊥
CantOpenBy text (NotLawful at) = ⊥
CantOpenBy text Memory = ⊤
