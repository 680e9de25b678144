-- How a command that opens a session ends, and the command `once`.
use Rattle.std.specs.Prelude.{◌≡◌, ℕ}
use Rattle.outside.specs.Crash.{Passes}
use Rattle.outside.specs.Image.{Same}
use Rattle.outside.specs.World.{Told}
use Rattle.poll_core.specs.declared.fault.OpenFault.{OpenFault}
use Rattle.poll_core.specs.declared.session.Session.{Session}
use Rattle.agent_commands.specs.Faults.{opening_fault}
use Rattle.agent_commands.specs.Grows.{GrowsBy}
use Rattle.agent_commands.specs.Moment.{Moment, Meanings, moment}
use Rattle.agent_commands.specs.Opens.{Opens, IsOpeningFault, IsRefusal}
use Rattle.agent_commands.specs.Report.{GrowsByPart}
use Rattle.agent_commands.specs.Status.{fault_line, status_of}
use Rattle.agent_commands.specs.Turn.{Turns, Stops}

module _ {T D K C : Type 0} (meanings : Meanings T D K C) (old new : Moment T D K C) where
  -- No session was opened, for the reason that the status and the report have, and neither a file nor the clock was looked at. A
  -- refusal leaves the disk as it was, and whatever it is, nothing that was kept is lost.
  pub record IsNotOpened (status : ℕ) : Type 0 where
    pub fault : OpenFault
    pub is : status ≡ status_of (opening_fault fault)
    pub cause : IsOpeningFault meanings.disks.images old.disk fault
    pub told : Told (GrowsByPart (fault_line (opening_fault fault))) (meanings.reports.written old.report) (meanings.reports.written new.report)
    pub same_tree : new.tree ≡ old.tree
    pub same_clock : new.clock ≡ old.clock
    pub untouched : IsRefusal fault → Passes meanings.disks.images Same old.disk new.disk
    pub crash : Passes meanings.disks.images (GrowsBy 0) old.disk new.disk

  -- A session was opened, and a poll of it came to its end and was told.
  pub record PollsOnce : Type 0 where
    pub session : Session
    pub between : D
    pub opens : Opens meanings.disks.images session old.disk between
    pub next : Session
    pub turns : Turns meanings session old next (moment old.tree between old.report old.clock) new

  -- A session was opened, and a poll of it ended the command.
  pub record StopsOnce (status : ℕ) : Type 0 where
    pub session : Session
    pub between : D
    pub opens : Opens meanings.disks.images session old.disk between
    pub stops : Stops meanings session status (moment old.tree between old.report old.clock) new

  pub data OnceEnds : ℕ → Type 0 where
    polls : PollsOnce → OnceEnds 0
    stops : (status : ℕ) → StopsOnce status → OnceEnds status
    not_opened : (status : ℕ) → IsNotOpened status → OnceEnds status
