-- What statuses tell.
use Rattle.std.proofs.Common.{◌≡◌, ℕ, ◌+◌, ◌≤◌, List, refl, sym, ◌∙◌, arith, inl, inr}
use Rattle.std.specs.Prelude.{◌≢◌, ◌⊎◌, Option, Result, Ok, Err}
use Rattle.checkpoint_journal.specs.JournalCause.{HasJournalCause}
use Rattle.checkpoint_journal.specs.declared.fault.JournalFault.{JournalFault}
use Rattle.checkpoint_journal.specs.declared.fault.JournalFault.TheVariants as journal
use Rattle.outside.specs.ClockMeaning.{ClockMeaning}
use Rattle.outside.specs.Count.{HasOneCause, Rose}
use Rattle.outside.specs.DiskMeaning.{DiskMeaning}
use Rattle.outside.specs.Images.{Images}
use Rattle.outside.specs.StreamMeaning.{SinkMeaning}
use Rattle.outside.specs.TreeMeaning.{TreeMeaning}
use Rattle.outside.specs.declared.disk.DiskFile.{DiskFile}
use Rattle.outside.specs.declared.fault.Failed.{Failed}
use Rattle.folder_audit.specs.Cause.{HasAuditCause}
use Rattle.folder_audit.specs.declared.fault.AuditFault.{AuditFault}
use Rattle.folder_audit.specs.declared.fault.AuditFault.TheVariants as auditing
use Rattle.poll_core.specs.AdoptCause.{HasAdoptCause}
use Rattle.poll_core.specs.OpenCause.{HasOpenCause}
use Rattle.poll_core.specs.PollCause.{HasPollCause}
use Rattle.poll_core.specs.declared.adopt_fault.AdoptFault.{AdoptFault}
use Rattle.poll_core.specs.declared.adopt_fault.AdoptFault.TheVariants as adopting
use Rattle.poll_core.specs.declared.fault.OpenFault.{OpenFault}
use Rattle.poll_core.specs.declared.fault.OpenFault.TheVariants as opening
use Rattle.poll_core.specs.declared.poll_fault.PollFault.{PollFault}
use Rattle.poll_core.specs.declared.poll_fault.PollFault.TheVariants as polling
use Rattle.poll_core.specs.declared.session.Session.{Session}
use Rattle.agent_commands.specs.Adopt as adopt
use Rattle.agent_commands.specs.Adopt.{AdoptEnds}
use Rattle.agent_commands.specs.Audit as audit
use Rattle.agent_commands.specs.Audit.{AuditEnds, Audits}
use Rattle.agent_commands.specs.Committed as committed
use Rattle.agent_commands.specs.Committed.{CommittedEnds}
use Rattle.agent_commands.specs.Control.{max_control}
use Rattle.agent_commands.specs.Faults.{adopting_fault, auditing_fault, opening_fault, polling_fault, reading_fault}
use Rattle.agent_commands.specs.Follow as follow
use Rattle.agent_commands.specs.Follow.{FollowEnds, Follows, Progress, StopsAt}
use Rattle.agent_commands.specs.Moment.{Moment, Meanings, moment}
use Rattle.agent_commands.specs.Once as once
use Rattle.agent_commands.specs.Once.{IsNotOpened, OnceEnds}
use Rattle.agent_commands.specs.Pipe as pipe
use Rattle.agent_commands.specs.Pipe.{PipeEnds, PipeMoment}
use Rattle.agent_commands.specs.Status.{IsStatus, status_of}
use Rattle.agent_commands.specs.Turn.{IsTurnStatus, Stops}
use Rattle.agent_commands.specs.declared.control.Request.{Request}
use Rattle.agent_commands.specs.declared.control.Request.TheVariants.{Poll, Quit, End, Faulty, Exhausted}
use Rattle.agent_commands.specs.declared.fault.Fault.{Fault}
use Rattle.agent_commands.specs.declared.fault.Fault.TheVariants.{Usage, Settings, Build, CheckpointBad, SettingsChanged, OutputShort, Disk, Control, Memory, OutputFull, ControlLine, Worn, ControlLong, NothingKept, Eras, Fingerprint, KeptSettings, KeptBuild, Differs, FlushOn, Large}

-- ---- faults

-- no fault has the status of a report that failed, or of success
pub some_fault : (fault : Fault) → (status_of fault ≡ 9 → ⊥) × (status_of fault ≡ 0 → ⊥)
some_fault Usage = (λ is. omega (arith, is), λ is. omega (arith, is))
some_fault (Settings _) = (λ is. omega (arith, is), λ is. omega (arith, is))
some_fault (Build _) = (λ is. omega (arith, is), λ is. omega (arith, is))
some_fault (CheckpointBad _) = (λ is. omega (arith, is), λ is. omega (arith, is))
some_fault (SettingsChanged _) = (λ is. omega (arith, is), λ is. omega (arith, is))
some_fault (OutputShort _ _) = (λ is. omega (arith, is), λ is. omega (arith, is))
some_fault Disk = (λ is. omega (arith, is), λ is. omega (arith, is))
some_fault Control = (λ is. omega (arith, is), λ is. omega (arith, is))
some_fault Memory = (λ is. omega (arith, is), λ is. omega (arith, is))
some_fault (OutputFull _) = (λ is. omega (arith, is), λ is. omega (arith, is))
some_fault (ControlLine _) = (λ is. omega (arith, is), λ is. omega (arith, is))
some_fault Worn = (λ is. omega (arith, is), λ is. omega (arith, is))
some_fault ControlLong = (λ is. omega (arith, is), λ is. omega (arith, is))
some_fault NothingKept = (λ is. omega (arith, is), λ is. omega (arith, is))
some_fault Eras = (λ is. omega (arith, is), λ is. omega (arith, is))
some_fault (Fingerprint _ _) = (λ is. omega (arith, is), λ is. omega (arith, is))
some_fault (KeptSettings _) = (λ is. omega (arith, is), λ is. omega (arith, is))
some_fault (KeptBuild _) = (λ is. omega (arith, is), λ is. omega (arith, is))
some_fault (Differs _ _) = (λ is. omega (arith, is), λ is. omega (arith, is))
some_fault FlushOn = (λ is. omega (arith, is), λ is. omega (arith, is))
some_fault (Large _) = (λ is. omega (arith, is), λ is. omega (arith, is))

-- the disk's count, by the status
abbrev pub HasCount : ℕ → ℕ → ℕ → Type 0
HasCount status before after = (status ≡ 7 → Rose before after) × (status ≢ 7 → after ≡ before)

stood : (status before after : ℕ) → status ≢ 7 → after ≡ before → HasCount status before after
stood status before after other same = (λ is. absurd (other is), λ _. same)

pub opening_count : (T : Type 0) (fault : OpenFault) (before after : ℕ) → HasOpenCause {T = T} (Err fault) before after → HasCount (status_of (opening_fault fault)) before after
opening_count T (opening.Settings _) before after same = stood 3 before after (λ is. omega (arith, is)) same
opening_count T (opening.Build _) before after same = stood 3 before after (λ is. omega (arith, is)) same
opening_count T opening.Disk before after rose = (λ _. rose, λ other. absurd (other refl))
opening_count T (opening.CheckpointBad _) before after same = stood 4 before after (λ is. omega (arith, is)) same
opening_count T (opening.SettingsChanged _) before after same = stood 5 before after (λ is. omega (arith, is)) same
opening_count T (opening.OutputShort _ _) before after same = stood 6 before after (λ is. omega (arith, is)) same
opening_count T opening.Memory before after same = stood 10 before after (λ is. omega (arith, is)) same

pub polling_count : (T : Type 0) (fault : PollFault) (before after : ℕ) → HasPollCause {T = T} (Err fault) before after → HasCount (status_of (polling_fault fault)) before after
polling_count T polling.Disk before after rose = (λ _. rose, λ other. absurd (other refl))
polling_count T (polling.OutputFull _) before after same = stood 11 before after (λ is. omega (arith, is)) same
polling_count T (polling.Worn _) before after same = stood 13 before after (λ is. omega (arith, is)) same
polling_count T polling.Memory before after same = stood 10 before after (λ is. omega (arith, is)) same

pub reading_count : (T : Type 0) (fault : JournalFault) (before after : ℕ) → HasJournalCause {T = T} (Err fault) before after → HasCount (status_of (reading_fault fault)) before after
reading_count T journal.Disk before after rose = (λ _. rose, λ other. absurd (other refl))
reading_count T (journal.Bad _) before after same = stood 4 before after (λ is. omega (arith, is)) same
reading_count T journal.Memory before after same = stood 10 before after (λ is. omega (arith, is)) same

pub adopting_count : (T : Type 0) (fault : AdoptFault) (before after : ℕ) → HasAdoptCause {T = T} (Err fault) before after → HasCount (status_of (adopting_fault fault)) before after
adopting_count T (adopting.Settings _) before after same = stood 3 before after (λ is. omega (arith, is)) same
adopting_count T (adopting.Build _) before after same = stood 3 before after (λ is. omega (arith, is)) same
adopting_count T adopting.Disk before after rose = (λ _. rose, λ other. absurd (other refl))
adopting_count T adopting.NothingKept before after same = stood 16 before after (λ is. omega (arith, is)) same
adopting_count T (adopting.CheckpointBad _) before after same = stood 4 before after (λ is. omega (arith, is)) same
adopting_count T (adopting.KeptSettings _) before after same = stood 19 before after (λ is. omega (arith, is)) same
adopting_count T (adopting.Kept _) before after same = stood 19 before after (λ is. omega (arith, is)) same
adopting_count T (adopting.OutputShort _ _) before after same = stood 6 before after (λ is. omega (arith, is)) same
adopting_count T (adopting.Fingerprint _ _) before after same = stood 18 before after (λ is. omega (arith, is)) same
adopting_count T adopting.Eras before after same = stood 17 before after (λ is. omega (arith, is)) same
adopting_count T (adopting.OutputFull _) before after same = stood 11 before after (λ is. omega (arith, is)) same
adopting_count T (adopting.Worn _) before after same = stood 13 before after (λ is. omega (arith, is)) same
adopting_count T adopting.Memory before after same = stood 10 before after (λ is. omega (arith, is)) same

pub auditing_count : (T : Type 0) (fault : AuditFault) (before after : ℕ) → HasAuditCause {T = T} (Err fault) before after → HasCount (status_of (auditing_fault fault)) before after
auditing_count T auditing.Disk before after rose = (λ _. rose, λ other. absurd (other refl))
auditing_count T auditing.NothingKept before after same = stood 16 before after (λ is. omega (arith, is)) same
auditing_count T (auditing.CheckpointBad _) before after same = stood 4 before after (λ is. omega (arith, is)) same
auditing_count T (auditing.KeptSettings _) before after same = stood 19 before after (λ is. omega (arith, is)) same
auditing_count T (auditing.KeptBuild _) before after same = stood 19 before after (λ is. omega (arith, is)) same
auditing_count T (auditing.OutputShort _ _) before after same = stood 6 before after (λ is. omega (arith, is)) same
auditing_count T auditing.FlushOn before after same = stood 21 before after (λ is. omega (arith, is)) same
auditing_count T (auditing.Large _) before after same = stood 22 before after (λ is. omega (arith, is)) same
auditing_count T (auditing.Differs _ _) before after same = stood 20 before after (λ is. omega (arith, is)) same
auditing_count T auditing.Memory before after same = stood 10 before after (λ is. omega (arith, is)) same

-- ---- polls

pub status_of_poll : (fault : PollFault) → IsTurnStatus (status_of (polling_fault fault))
status_of_poll polling.Disk = inl refl
status_of_poll polling.Memory = inr (inr (inl refl))
status_of_poll (polling.OutputFull _) = inr (inr (inr (inl refl)))
status_of_poll (polling.Worn _) = inr (inr (inr (inr refl)))

-- ---- control lines

module _ (number status : ℕ) (old new : Option (List ℕ)) where
  -- the control input's count, by the status
  pub count_of_stop : (request : Result Request Failed) (before after : ℕ) → StopsAt request number status old new → HasOneCause request before after → (status ≡ 8 → Rose before after) × (status ≢ 8 → after ≡ before)
  count_of_stop (Ok Poll) before after at same = absurd at
  count_of_stop (Ok Quit) before after at same = (λ is. absurd (omega (arith, is, at.0)), λ _. same)
  count_of_stop (Ok End) before after at same = (λ is. absurd (omega (arith, is, at.0)), λ _. same)
  count_of_stop (Ok Faulty) before after at same = (λ is. absurd (omega (arith, is, at.0)), λ _. same)
  count_of_stop (Ok Exhausted) before after at same = (λ is. absurd (omega (arith, is, at.0)), λ _. same)
  count_of_stop (Err _) before after at rose = (λ _. rose, λ other. absurd (other at.0))

  pub no_poll_status : (request : Result Request Failed) → StopsAt request number status old new → (status ≡ 7 → ⊥) × (status ≡ 9 → ⊥)
  no_poll_status (Ok Poll) at = absurd at
  no_poll_status (Ok Quit) at = (λ is. omega (arith, is, at.0), λ is. omega (arith, is, at.0))
  no_poll_status (Ok End) at = (λ is. omega (arith, is, at.0), λ is. omega (arith, is, at.0))
  no_poll_status (Ok Faulty) at = (λ is. omega (arith, is, at.0), λ is. omega (arith, is, at.0))
  no_poll_status (Ok Exhausted) at = (λ is. omega (arith, is, at.0), λ is. omega (arith, is, at.0))
  no_poll_status (Err _) at = (λ is. omega (arith, is, at.0), λ is. omega (arith, is, at.0))

  pub exhausted_of_status : (request : Result Request Failed) → StopsAt request number status old new → status ≡ 15 → request ≡ Ok Exhausted
  exhausted_of_status (Ok Poll) at is = absurd at
  exhausted_of_status (Ok Quit) at is = absurd (omega (arith, is, at.0))
  exhausted_of_status (Ok End) at is = absurd (omega (arith, is, at.0))
  exhausted_of_status (Ok Faulty) at is = absurd (omega (arith, is, at.0))
  exhausted_of_status (Ok Exhausted) at is = refl
  exhausted_of_status (Err _) at is = absurd (omega (arith, is, at.0))

pub other_status : (status : ℕ) → IsTurnStatus status → (status ≡ 0 → ⊥) × (status ≡ 8 → ⊥) × (status ≡ 15 → ⊥)
other_status status (inl is) = (λ no. omega (arith, is, no), λ no. omega (arith, is, no), λ no. omega (arith, is, no))
other_status status (inr (inl is)) = (λ no. omega (arith, is, no), λ no. omega (arith, is, no), λ no. omega (arith, is, no))
other_status status (inr (inr (inl is))) = (λ no. omega (arith, is, no), λ no. omega (arith, is, no), λ no. omega (arith, is, no))
other_status status (inr (inr (inr (inl is)))) = (λ no. omega (arith, is, no), λ no. omega (arith, is, no), λ no. omega (arith, is, no))
other_status status (inr (inr (inr (inr is)))) = (λ no. omega (arith, is, no), λ no. omega (arith, is, no), λ no. omega (arith, is, no))

-- ---- opening, and the checkpoint alone

-- what is said of the status of a command that opened no session
abbrev pub IsOpeningStatus : ℕ → Type 0
IsOpeningStatus status = (3 ≤ status) × (status ≡ 8 → ⊥) × (status ≤ 10)

pub opening_status : (fault : OpenFault) → IsOpeningStatus (status_of (opening_fault fault))
opening_status (opening.Settings _) = (omega arith, λ is. omega (arith, is), omega arith)
opening_status (opening.Build _) = (omega arith, λ is. omega (arith, is), omega arith)
opening_status opening.Disk = (omega arith, λ is. omega (arith, is), omega arith)
opening_status (opening.CheckpointBad _) = (omega arith, λ is. omega (arith, is), omega arith)
opening_status (opening.SettingsChanged _) = (omega arith, λ is. omega (arith, is), omega arith)
opening_status (opening.OutputShort _ _) = (omega arith, λ is. omega (arith, is), omega arith)
opening_status opening.Memory = (omega arith, λ is. omega (arith, is), omega arith)

reading_status : (fault : JournalFault) → 3 ≤ status_of (reading_fault fault)
reading_status journal.Disk = omega arith
reading_status (journal.Bad _) = omega arith
reading_status journal.Memory = omega arith

-- ---- adopting

-- what is said of the status of settings that weren't adopted
abbrev IsAdoptingStatus : ℕ → Type 0
IsAdoptingStatus status = (3 ≤ status) × (status ≡ 15 → ⊥)

adopting_status : (fault : AdoptFault) → IsAdoptingStatus (status_of (adopting_fault fault))
adopting_status (adopting.Settings _) = (omega arith, λ is. omega (arith, is))
adopting_status (adopting.Build _) = (omega arith, λ is. omega (arith, is))
adopting_status adopting.Disk = (omega arith, λ is. omega (arith, is))
adopting_status adopting.NothingKept = (omega arith, λ is. omega (arith, is))
adopting_status (adopting.CheckpointBad _) = (omega arith, λ is. omega (arith, is))
adopting_status (adopting.KeptSettings _) = (omega arith, λ is. omega (arith, is))
adopting_status (adopting.Kept _) = (omega arith, λ is. omega (arith, is))
adopting_status (adopting.OutputShort _ _) = (omega arith, λ is. omega (arith, is))
adopting_status (adopting.Fingerprint _ _) = (omega arith, λ is. omega (arith, is))
adopting_status adopting.Eras = (omega arith, λ is. omega (arith, is))
adopting_status (adopting.OutputFull _) = (omega arith, λ is. omega (arith, is))
adopting_status (adopting.Worn _) = (omega arith, λ is. omega (arith, is))
adopting_status adopting.Memory = (omega arith, λ is. omega (arith, is))

-- ---- commands

-- the status of a command, which isn't that of faulty words
abbrev pub IsCommandStatus : ℕ → Type 0
IsCommandStatus status = IsStatus status × (status ≡ 2 → ⊥)

of_fault : (status : ℕ) (fault : Fault) → status ≡ status_of fault → (status_of fault ≡ 2 → ⊥) → IsCommandStatus status
of_fault status fault is other = (inr (inr (fault, is)), λ two. other (sym is ∙ two))

untold_status : (status : ℕ) → (status ≡ 9) ⊎ (status ≡ 10) → IsCommandStatus status
untold_status status (inl is) = (inr (inl is), λ two. omega (arith, is, two))
untold_status status (inr is) = of_fault status Memory is (λ two. omega (arith, two))

turn_is_other : (status : ℕ) → IsTurnStatus status → status ≡ 2 → ⊥
turn_is_other status (inl is) two = omega (arith, is, two)
turn_is_other status (inr (inl is)) two = omega (arith, is, two)
turn_is_other status (inr (inr (inl is))) two = omega (arith, is, two)
turn_is_other status (inr (inr (inr (inl is)))) two = omega (arith, is, two)
turn_is_other status (inr (inr (inr (inr is)))) two = omega (arith, is, two)

module _ {T D K C : Type 0} (meanings : Meanings T D K C) where
  stops_status : (session : Session) (status : ℕ) (old new : Moment T D K C) → Stops meanings session status old new → IsCommandStatus status
  stops_status session status old new (inl untold) = untold_status status untold.is
  stops_status session status old new (inr refused) = of_fault status (polling_fault refused.fault) refused.is (turn_is_other (status_of (polling_fault refused.fault)) (status_of_poll refused.fault))

  not_opened_status : (status : ℕ) (old new : Moment T D K C) → IsNotOpened meanings old new status → IsCommandStatus status
  not_opened_status status old new not = of_fault status (opening_fault not.fault) not.is (λ two. let low = (opening_status not.fault).0 in omega (arith, low, two))

  pub once_status : (old new : Moment T D K C) (status : ℕ) → OnceEnds meanings old new status → IsCommandStatus status
  once_status old new _ (once.polls done) = (inl refl, λ two. omega (arith, two))
  once_status old new _ (once.stops status done) = stops_status done.session status (moment old.tree done.between old.report old.clock) new done.stops
  once_status old new _ (once.not_opened status not) = not_opened_status status old new not

  untold_not_long : (status : ℕ) → (status ≡ 9) ⊎ (status ≡ 10) → status ≡ 15 → ⊥
  untold_not_long status (inl is) long = omega (arith, is, long)
  untold_not_long status (inr is) long = omega (arith, is, long)

  stops_not_long : (session : Session) (status : ℕ) (old new : Moment T D K C) → Stops meanings session status old new → status ≡ 15 → ⊥
  stops_not_long session status old new (inl untold) long = untold_not_long status untold.is long
  stops_not_long session status old new (inr refused) long = (other_status (status_of (polling_fault refused.fault)) (status_of_poll refused.fault)).2 (sym refused.is ∙ long)

  -- only a command that takes control lines can take too many bytes
  pub once_not_long : (old new : Moment T D K C) (status : ℕ) → OnceEnds meanings old new status → status ≡ 15 → ⊥
  once_not_long old new _ (once.polls done) long = omega (arith, long)
  once_not_long old new _ (once.stops status done) long = stops_not_long done.session status (moment old.tree done.between old.report old.clock) new done.stops long
  once_not_long old new _ (once.not_opened status not) long = let high = (opening_status not.fault).2 in omega (arith, high, not.is, long)

  at_status : (request : Result Request Failed) (number status : ℕ) (old new : Option (List ℕ)) → StopsAt request number status old new → IsCommandStatus status
  at_status (Ok Poll) number status old new at = absurd at
  at_status (Ok Quit) number status old new at = (inl at.0, λ two. omega (arith, at.0, two))
  at_status (Ok End) number status old new at = (inl at.0, λ two. omega (arith, at.0, two))
  at_status (Ok Faulty) number status old new at = of_fault status (ControlLine number) at.0 (λ two. omega (arith, two))
  at_status (Ok Exhausted) number status old new at = of_fault status ControlLong at.0 (λ two. omega (arith, two))
  at_status (Err _) number status old new at = of_fault status Control at.0 (λ two. omega (arith, two))

  follows_status : (begun : Moment T D K C) (end : Progress) (status : ℕ) (rest_after : Option (List ℕ)) (new : Moment T D K C) (number left : ℕ) (session : Session) (rest : Option (List ℕ)) (old : Moment T D K C)
      → Follows meanings begun end status rest_after new number left session rest old → IsCommandStatus status
  follows_status begun end status rest_after new number left session rest old (follow.polls _ _ left_after _ next _ between _ mid asks turns more) = follows_status begun end status rest_after new (number + 1) left_after next between mid more
  follows_status begun end status rest_after new number left session rest old (follow.stops _ _ left_after _ _ _ asks stops _ _) = stops_status session status old new stops
  follows_status begun end status rest_after new number left session rest old (follow.ends _ _ left_after _ _ _ request asks at _ _ _ _ _) = at_status request number status (meanings.reports.written old.report) (meanings.reports.written new.report) at

  pub follow_status : (rest rest_after : Option (List ℕ)) (old new : Moment T D K C) (status : ℕ) → FollowEnds meanings rest rest_after old new status → IsCommandStatus status
  follow_status rest rest_after old new status (follow.serves done) = follows_status old done.served.end status rest_after new 1 max_control done.session rest (moment old.tree done.between old.report old.clock) done.served.follows
  follow_status rest rest_after old new status (follow.not_opened not _) = not_opened_status status old new not

pub committed_status : {D K : Type 0} (disks : DiskMeaning D) (reports : SinkMeaning K) (disk : D) (report report_after : K) (status : ℕ) → CommittedEnds disks reports disk report report_after status → IsCommandStatus status
committed_status disks reports disk report report_after _ (committed.tells done) = (inl refl, λ two. omega (arith, two))
committed_status disks reports disk report report_after _ (committed.failed done) = untold_status 9 (inl refl)
committed_status disks reports disk report report_after _ (committed.no_memory done) = untold_status 10 (inr refl)
committed_status disks reports disk report report_after _ (committed.unread status done) = of_fault status (reading_fault done.fault) done.is (λ two. let low = reading_status done.fault in omega (arith, low, two))

pub pipe_status : {D C : Type 0} (disks : DiskMeaning D) (clocks : ClockMeaning C) (disk : D) (old new : PipeMoment C) (status : ℕ) → PipeEnds disks clocks disk old new status → IsCommandStatus status
pipe_status disks clocks disk old new _ (pipe.whole done) = (inl refl, λ two. omega (arith, two))
pipe_status disks clocks disk old new _ (pipe.control_failed done) = of_fault 8 Control refl (λ two. omega (arith, two))
pipe_status disks clocks disk old new _ (pipe.report_failed done) = untold_status 9 (inl refl)
pipe_status disks clocks disk old new _ (pipe.no_memory done) = untold_status 10 (inr refl)
pipe_status disks clocks disk old new _ (pipe.full size done) = of_fault 11 (OutputFull size) refl (λ two. omega (arith, two))
pipe_status disks clocks disk old new _ (pipe.too_long done) = of_fault 15 ControlLong refl (λ two. omega (arith, two))
pipe_status disks clocks disk old new _ (pipe.not_piped status not) = of_fault status (opening_fault not.fault) not.is (λ two. let low = (opening_status not.fault).0 in omega (arith, low, two))

module _ {D : Type 0} (images : Images DiskFile D) (disk disk_after : D) (report report_after : Option (List ℕ)) where
  pub adopt_status : (status : ℕ) → AdoptEnds images disk disk_after report report_after status → IsCommandStatus status
  adopt_status _ (adopt.tells done) = (inl refl, λ two. omega (arith, two))
  adopt_status _ (adopt.failed done) = untold_status 9 (inl refl)
  adopt_status _ (adopt.no_memory done) = untold_status 10 (inr refl)
  adopt_status _ (adopt.not_read status not) = of_fault status (opening_fault not.fault) not.is (λ two. let low = (opening_status not.fault).0 in omega (arith, low, two))
  adopt_status _ (adopt.not_adopted status not) = of_fault status (adopting_fault not.fault) not.is (λ two. let low = (adopting_status not.fault).0 in omega (arith, low, two))

  pub adopt_not_long : (status : ℕ) → AdoptEnds images disk disk_after report report_after status → status ≡ 15 → ⊥
  adopt_not_long _ (adopt.tells done) long = omega (arith, long)
  adopt_not_long _ (adopt.failed done) long = omega (arith, long)
  adopt_not_long _ (adopt.no_memory done) long = omega (arith, long)
  adopt_not_long _ (adopt.not_read status not) long = let high = (opening_status not.fault).2 in omega (arith, high, not.is, long)
  adopt_not_long _ (adopt.not_adopted status not) long = (adopting_status not.fault).1 (sym not.is ∙ long)

-- an audit's fault is no fault of words, nor of a control input
auditing_status : (fault : AuditFault) → (status_of (auditing_fault fault) ≡ 2 → ⊥) × (status_of (auditing_fault fault) ≡ 15 → ⊥)
auditing_status auditing.Disk = (λ is. omega (arith, is), λ is. omega (arith, is))
auditing_status auditing.NothingKept = (λ is. omega (arith, is), λ is. omega (arith, is))
auditing_status (auditing.CheckpointBad _) = (λ is. omega (arith, is), λ is. omega (arith, is))
auditing_status (auditing.KeptSettings _) = (λ is. omega (arith, is), λ is. omega (arith, is))
auditing_status (auditing.KeptBuild _) = (λ is. omega (arith, is), λ is. omega (arith, is))
auditing_status (auditing.OutputShort _ _) = (λ is. omega (arith, is), λ is. omega (arith, is))
auditing_status auditing.FlushOn = (λ is. omega (arith, is), λ is. omega (arith, is))
auditing_status (auditing.Large _) = (λ is. omega (arith, is), λ is. omega (arith, is))
auditing_status (auditing.Differs _ _) = (λ is. omega (arith, is), λ is. omega (arith, is))
auditing_status auditing.Memory = (λ is. omega (arith, is), λ is. omega (arith, is))

module _ {T D K : Type 0} (trees : TreeMeaning T) (disks : DiskMeaning D) (reports : SinkMeaning K) (run : Audits T D K) where
  pub audit_status : (status : ℕ) → AuditEnds trees disks reports run status → IsCommandStatus status
  audit_status _ (audit.tells done) = (inl refl, λ two. omega (arith, two))
  audit_status _ (audit.failed done) = untold_status 9 (inl refl)
  audit_status _ (audit.no_memory done) = untold_status 10 (inr refl)
  audit_status _ (audit.not_audited status not) = of_fault status (auditing_fault not.fault) not.is (auditing_status not.fault).0

  pub audit_not_long : (status : ℕ) → AuditEnds trees disks reports run status → status ≡ 15 → ⊥
  audit_not_long _ (audit.tells done) long = omega (arith, long)
  audit_not_long _ (audit.failed done) long = omega (arith, long)
  audit_not_long _ (audit.no_memory done) long = omega (arith, long)
  audit_not_long _ (audit.not_audited status not) long = (auditing_status not.fault).1 (sym not.is ∙ long)
