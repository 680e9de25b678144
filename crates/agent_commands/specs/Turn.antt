-- One poll of a command at a reading of the clock, and its report.
use Rattle.std.specs.Prelude.{◌≡◌, ◌⊎◌, ⊤, ℕ, Some}
use Rattle.checkpoint_journal.specs.Written.{IsWorn}
use Rattle.file_pass.specs.Moment as pass
use Rattle.outside.specs.ClockMeaning.{ClockMeaning, Reads}
use Rattle.outside.specs.TreeMeaning.{TreeMeaning}
use Rattle.outside.specs.World.{Told, World}
use Rattle.poll_core.specs.Overflows.{Overflows}
use Rattle.poll_core.specs.Polled.{Polled}
use Rattle.poll_core.specs.SessionParts.{journal_of_session, checkpoint_of_session, session_at}
use Rattle.poll_core.specs.declared.poll_fault.PollFault.{PollFault}
use Rattle.poll_core.specs.declared.poll_fault.PollFault.TheVariants.{Disk, OutputFull, Worn, Memory}
use Rattle.poll_core.specs.declared.session.Session.{Session}
use Rattle.poll_core.specs.declared.summary.Summary.{Summary}
use Rattle.agent_commands.specs.Faults.{polling_fault}
use Rattle.agent_commands.specs.Headline.{HoldsAll, StoodSince}
use Rattle.agent_commands.specs.Moment.{Moment, Meanings}
use Rattle.agent_commands.specs.Report.{Appends, GrowsByPart}
use Rattle.agent_commands.specs.Status.{fault_line, status_of}
use Rattle.agent_commands.specs.SummaryLine.{summary_line}

-- Want of memory is free, and a fault of the disk has its own clause.
abbrev pub IsPollFault : {T : Type 0} (trees : TreeMeaning T) (session : Session) (tree tree_after : T) → PollFault → Type 0
IsPollFault trees session tree tree_after (OutputFull size) = Told (Overflows session size) (trees.world tree) (trees.world tree_after)
IsPollFault trees session tree tree_after (Worn sequence) = IsWorn (journal_of_session session)
IsPollFault trees session tree tree_after Disk = ⊤
IsPollFault trees session tree tree_after Memory = ⊤

-- the statuses that end a command at a poll
abbrev pub IsTurnStatus : ℕ → Type 0
IsTurnStatus status = (status ≡ 7) ⊎ (status ≡ 9) ⊎ (status ≡ 10) ⊎ (status ≡ 11) ⊎ (status ≡ 13)

-- The clock was read once, and the session is at that time.
pub record IsAtReading {C : Type 0} (clocks : ClockMeaning C) (session at : Session) (clock clock_after : C) : Type 0 where
  pub now : ℕ
  pub read : Told (Reads now) (clocks.readings clock) (clocks.readings clock_after)
  pub is : at ≡ session_at session now

module _ {T D K C : Type 0} (meanings : Meanings T D K C) (session : Session) where
  -- The clock was read once, and gave this time.
  abbrev pub IsReading : ℕ → Moment T D K C → Moment T D K C → Type 0
  IsReading now old new = Told (Reads now) (meanings.clocks.readings old.clock) (meanings.clocks.readings new.clock)

  -- A poll at this time came to its end, with this session and these numbers.
  abbrev pub PollsTo : ℕ → Session → Summary → Moment T D K C → Moment T D K C → Type 0
  PollsTo now next summary old new = Polled (pass.meanings meanings.trees meanings.disks) (session_at session now) next summary (pass.moment old.tree old.disk) (pass.moment new.tree new.disk)

  -- After a complete poll all is taken, if what a crash could leave when the command began stood for the history then.
  abbrev pub HoldsAllSince : ℕ → Moment T D K C → Session → Summary → Moment T D K C → Moment T D K C → Type 0
  HoldsAllSince now begun next summary old new = (first : World) → meanings.trees.world begun.tree ≡ Some first
      → Told (HoldsAll (session_at session now) (checkpoint_of_session next) summary (StoodSince meanings.disks.images first.history begun.disk old.disk))
      (meanings.trees.world old.tree) (meanings.trees.world new.tree)

  -- So it did, it holds all where it was complete, and the report grew by its summary line. The command began at the first moment.
  pub record Turns (begun : Moment T D K C) (next : Session) (old new : Moment T D K C) : Type 0 where
    pub now : ℕ
    pub read : IsReading now old new
    pub summary : Summary
    pub polled : PollsTo now next summary old new
    pub whole : HoldsAllSince now begun next summary old new
    pub told : Told (Appends (summary_line summary)) (meanings.reports.written old.report) (meanings.reports.written new.report)

  -- It came to its end, but the report failed (9), or memory ran out before all of it was told (10).
  pub record StopsUntold (status : ℕ) (old new : Moment T D K C) : Type 0 where
    pub now : ℕ
    pub read : IsReading now old new
    pub next : Session
    pub summary : Summary
    pub polled : PollsTo now next summary old new
    pub is : (status ≡ 9) ⊎ (status ≡ 10)
    pub told : Told (GrowsByPart (summary_line summary)) (meanings.reports.written old.report) (meanings.reports.written new.report)

  -- It didn't come to its end, for the reason that the status and the report have.
  pub record StopsRefused (status : ℕ) (old new : Moment T D K C) : Type 0 where
    pub now : ℕ
    pub read : IsReading now old new
    pub fault : PollFault
    pub is : status ≡ status_of (polling_fault fault)
    pub cause : IsPollFault meanings.trees (session_at session now) old.tree new.tree fault
    pub told : Told (GrowsByPart (fault_line (polling_fault fault))) (meanings.reports.written old.report) (meanings.reports.written new.report)

  abbrev pub Stops : ℕ → Moment T D K C → Moment T D K C → Type 0
  Stops status old new = StopsUntold status old new ⊎ StopsRefused status old new
