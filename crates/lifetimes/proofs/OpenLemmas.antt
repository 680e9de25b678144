-- What an opening makes of a disk, as a script sees it.
use Rattle.std.proofs.Common.{◌≡◌, ℕ, ◌+◌, ◌≤◌, ◌<◌, List, true, IsTrue, Option, Result, Ok, Err, refl, sym, ap, subst, ◌∙◌}
use Rattle.std.specs.Prelude.{IfSome, IfOk, IfErr}
use Rattle.checkpoint_store.specs.Limits.{output_limit}
use Rattle.lifetimes.proofs.DiskLemmas.{leaves_reopened}
use Rattle.lifetimes.proofs.EraLemmas.{rules_own, session_of_one}
use Rattle.lifetimes.proofs.PollLemmas.{ready_same, rose_by_some}
use Rattle.lifetimes.specs.Inner.Answered.{opened_of}
use Rattle.lifetimes.specs.OneEra.{IsSoundBy, one_era}
use Rattle.lifetimes.specs.Inner.Past.{Past, CantOpenBy, Failures, IsDiskAt, IsOpened, IsReady, IsWell, LeavesAt, Opens}
use Rattle.lifetimes.specs.declared.fault.ScriptFault.{ScriptFault}
use Rattle.mem_world.specs.DiskLaws.{leaves_shown}
use Rattle.mem_world.specs.MemDisk.{disk_images, faults_of, history_of as log_of, seen_of}
use Rattle.mem_world.specs.declared.disk.MemDisk.{MemDisk}
use Rattle.outside.specs.Crash.{Passes}
use Rattle.outside.specs.Image.{Image}
use Rattle.outside.specs.declared.disk.DiskFile.{DiskFile}
use Rattle.outside.specs.declared.disk.DiskFile.TheVariants.{Output}
use Rattle.pipeline.proofs.OfText.{OneSet}
use Rattle.poll_core.proofs.SessionLemmas.{found_first, found_saved, left_goes_on}
use Rattle.poll_core.specs.Differs.{DiffersAt}
use Rattle.poll_core.specs.Found.{IsFound}
use Rattle.poll_core.specs.IsSession.{IsSession}
use Rattle.pipeline.specs.MadeOf.{HasRules, EndsWithRules}
use Rattle.poll_core.specs.OpenCause.{HasOpenCause, IsOfContents}
use Rattle.poll_core.specs.OpenFaults.{IsSettingsRefusal, IsRefused}
use Rattle.poll_core.specs.Remembers.{IsLeftBy}
use Rattle.poll_core.specs.Reopens.{Reopens}
use Rattle.poll_core.specs.SessionParts.{checkpoint_of_session, journal_of_session, rules_of_session, settings_of_session}
use Rattle.poll_core.specs.StandsOn.{StandsOn}
use Rattle.poll_core.specs.declared.fault.OpenFault.{OpenFault}
use Rattle.poll_core.specs.declared.fault.OpenFault.TheVariants.{Settings, Build, Disk, CheckpointBad, SettingsChanged, OutputShort, Memory}
use Rattle.poll_core.specs.declared.session.Session.{Session}
use Rattle.standing.specs.Eras.{Eras, last_era, texts_of}
use Rattle.standing.specs.Rows.{Checkpoint}
use Rattle.standing.specs.Rules.{Rules}
use Rattle.standing.specs.Standing.{Found, nothing, damaged, found, Sound}
use Rattle.poll_core.proofs.AdoptStands.{settings_are}

-- a session that was made of this text polls by its rules
opened_rules : OneSet → (text : List ℕ) (rules : Rules) (session : Session) → IsSession session → settings_of_session session ≡ text → HasRules text rules → rules_of_session session ≡ rules
opened_rules one_set text rules session is same has =
    let own : HasRules (settings_of_session session) (rules_of_session session) = (session.pipeline, is.made, refl) in
    one_set text (rules_of_session session) rules (subst (λ (t : List ℕ). HasRules t (rules_of_session session)) same own) has

-- Where the image that it found is of these settings alone, they were never changed.
opened_eras : (text : List ℕ) (rules : Rules) (session : Session) (image : Image DiskFile) → IsSession session → settings_of_session session ≡ text → HasRules text rules → IsLeftBy session image → IsSoundBy rules image → session.eras ≡ texts_of (one_era rules)
opened_eras text rules session image is same has left sound = by sound.there sound.found sound.sound
  where
    by : (there : Found) → IsFound image there → Sound (one_era rules) there (image Output) → session.eras ≡ texts_of (one_era rules)
    by nothing found_is sound_is =
        session_of_one rules session (is.one_era (found_first (journal_of_session session) (checkpoint_of_session session) image nothing (left_goes_on session image left).memory found_is refl)) (same ∙ sym (settings_are text rules has))
    by damaged found_is sound_is = absurd sound_is
    by (found saved) found_is sound_is = sym (ap (λ (c : Checkpoint). c.eras) (found_saved session image saved (left_goes_on session image left) found_is)) ∙ sound_is.texts

-- nothing differs from itself
same_differs : (text : List ℕ) (at : ℕ) → DiffersAt text text at → ⊥
same_differs text at differs = differs.differs refl

-- A sound image is refused only where other settings than its last ones are given.
abbrev pub OnlyOtherSettings : Type 0
OnlyOtherSettings = (eras : Eras) (text : List ℕ) (image : Image DiskFile) (there : Found) (fault : OpenFault) → EndsWithRules eras → IsFound image there → Sound eras there (image Output) → IsRefused text image fault
    → (at : ℕ) × (fault ≡ SettingsChanged at) × DiffersAt (last_era eras).settings text at

-- what was opened is no refusal of what stands on the disk
not_of_contents : OnlyOtherSettings → (text : List ℕ) (rules : Rules) (past : Past) (disk : MemDisk) (fault : OpenFault) → HasRules text rules → LeavesAt rules past disk → IsRefused text (seen_of disk) fault → ⊥
not_of_contents opened text rules past disk fault has leaves refused =
    let sound = (leaves.each (seen_of disk) (leaves_shown (log_of disk))).sound in
    let same : rules.settings ≡ text = settings_are text rules has in
    let changed = opened (one_era rules) text (seen_of disk) sound.there fault (rules_own text rules has) sound.found sound.sound refused in
    same_differs text changed.0 (subst (λ (t : List ℕ). DiffersAt t text changed.0) same changed.2)

-- what an opening's answer is for a script
pub ready_opened : (disk disk_cleared : MemDisk) (opened : Result Session OpenFault) → log_of disk_cleared ≡ log_of disk → IfOk opened IsSession → IfOk opened (λ session. StandsOn disk_images session disk)
    → IfOk (opened_of opened) (λ own. IfSome own (λ session. IsReady session disk_cleared))
ready_opened disk disk_cleared (Ok session) same is stands = record { session_is = is; stands = ready_same session disk disk_cleared same stands }
ready_opened disk disk_cleared (Err (Settings fault)) same is stands = tt
ready_opened disk disk_cleared (Err (Build fault)) same is stands = tt
ready_opened disk disk_cleared (Err Disk) same is stands = tt
ready_opened disk disk_cleared (Err (CheckpointBad place)) same is stands = tt
ready_opened disk disk_cleared (Err (SettingsChanged place)) same is stands = tt
ready_opened disk disk_cleared (Err (OutputShort kept size)) same is stands = tt
ready_opened disk disk_cleared (Err Memory) same is stands = tt

-- there is a session by these rules, or a call on the disk was to fail
abbrev OpensOn : List ℕ → MemDisk → Option Session → Type 0
OpensOn text disk own = (rules : Rules) (past : Past) (failures : Failures) → HasRules text rules → IsDiskAt rules past failures disk → failures.most < 18446744073709551615 → Opens rules failures own

-- what is told of a session that was opened
pub record IsOpenedOn (text : List ℕ) (disk : MemDisk) (opened : Result Session OpenFault) : Type 0 where
  pub session_is : IfOk opened IsSession
  pub text_is : IfOk opened (λ session. settings_of_session session ≡ text)
  pub limit : IfOk opened (λ session. session.limit ≡ output_limit)
  pub stands : IfOk opened (λ session. StandsOn disk_images session disk)

session_opens : OneSet → (text : List ℕ) (rules : Rules) (past : Past) (session : Session) (disk : MemDisk) → IsOpenedOn text disk (Ok session) → HasRules text rules → LeavesAt rules past disk → IsOpened rules session
session_opens one_set text rules past session disk on has leaves =
    let there = leaves_shown (log_of disk) in
    record {
      eras = opened_eras text rules session (seen_of disk) on.session_is on.text_is has (on.stands.each.each (seen_of disk) there) (leaves.each (seen_of disk) there).sound;
      rules_are = opened_rules one_set text rules session on.session_is on.text_is has;
      limit = on.limit;
    }

pub opens_is : OneSet → (text : List ℕ) (disk disk_after : MemDisk) (opened : Result Session OpenFault)
    → ((failures : Failures) → IsWell failures disk → faults_of disk_after ≤ faults_of disk + failures.waiting)
    → IsOpenedOn text disk_after opened → Passes disk_images Reopens disk disk_after → HasOpenCause opened (faults_of disk) (faults_of disk_after) → IfOk (opened_of opened) (OpensOn text disk)
opens_is one_set text disk disk_after (Ok session) few on passes cause = λ rules past failures has at below. session_opens one_set text rules past session disk_after on has (leaves_reopened rules past disk disk_after passes at.leaves)
opens_is one_set text disk disk_after (Err (Settings fault)) few on passes cause = tt
opens_is one_set text disk disk_after (Err (Build fault)) few on passes cause = tt
opens_is one_set text disk disk_after (Err Disk) few on passes cause = λ rules past failures has at below.
    rose_by_some (faults_of disk) (faults_of disk_after) failures.waiting failures.most (few failures at.well) at.well.few below cause
opens_is one_set text disk disk_after (Err (CheckpointBad place)) few on passes cause = tt
opens_is one_set text disk disk_after (Err (SettingsChanged place)) few on passes cause = tt
opens_is one_set text disk disk_after (Err (OutputShort kept size)) few on passes cause = tt
opens_is one_set text disk disk_after (Err Memory) few on passes cause = tt

abbrev CantOn : List ℕ → MemDisk → ScriptFault → Type 0
CantOn text disk fault = (rules : Rules) (past : Past) (failures : Failures) → HasRules text rules → IsDiskAt rules past failures disk → CantOpenBy text fault

pub refused_open : OnlyOtherSettings → (text : List ℕ) (disk : MemDisk) (opened : Result Session OpenFault) → IfErr opened (IsSettingsRefusal text) → IfErr opened (λ fault. IsTrue true → IsOfContents fault → IsRefused text (seen_of disk) fault) → IfErr (opened_of opened) (CantOn text disk)
refused_open sound text disk (Ok session) refusal contents = tt
refused_open sound text disk (Err (Settings fault)) refusal contents = λ rules past failures has at. record { of_settings = tt; refusal = refusal }
refused_open sound text disk (Err (Build fault)) refusal contents = λ rules past failures has at. record { of_settings = tt; refusal = refusal }
refused_open sound text disk (Err Disk) refusal contents = tt
refused_open sound text disk (Err (CheckpointBad place)) refusal contents = λ rules past failures has at. absurd (not_of_contents sound text rules past disk (CheckpointBad place) has at.leaves (contents refl tt))
refused_open sound text disk (Err (SettingsChanged place)) refusal contents = λ rules past failures has at. absurd (not_of_contents sound text rules past disk (SettingsChanged place) has at.leaves (contents refl tt))
refused_open sound text disk (Err (OutputShort kept size)) refusal contents = λ rules past failures has at. absurd (not_of_contents sound text rules past disk (OutputShort kept size) has at.leaves (contents refl tt))
refused_open sound text disk (Err Memory) refusal contents = λ rules past failures has at. tt
