-- The command `committed`: how much of the output is kept.
use Rattle.std.specs.Prelude.{◌≡◌, ⊤, ℕ, IsTrue, List, ◌++◌, codes, decimal}
use Rattle.checkpoint_journal.specs.JournalOf.{IsBadAt}
use Rattle.checkpoint_journal.specs.declared.fault.JournalFault.{JournalFault}
use Rattle.checkpoint_journal.specs.declared.fault.JournalFault.TheVariants.{Disk, Bad, Memory}
use Rattle.outside.specs.DiskMeaning.{DiskMeaning}
use Rattle.outside.specs.Images.{Images}
use Rattle.outside.specs.StreamMeaning.{SinkMeaning}
use Rattle.outside.specs.World.{Told}
use Rattle.outside.specs.declared.disk.DiskFile.{DiskFile}
use Rattle.poll_core.specs.Reopens.{Keeps}
use Rattle.agent_commands.specs.Faults.{reading_fault}
use Rattle.agent_commands.specs.Report.{Appends, GrowsByPart}
use Rattle.agent_commands.specs.Status.{fault_line, status_of}

abbrev pub length_line : ℕ → List ℕ
length_line size = decimal size ++ codes "\n"

-- Want of memory is free, and a fault of the disk has its own clause.
abbrev pub IsReadingFault : {D : Type 0} (images : Images DiskFile D) (disk : D) → JournalFault → Type 0
IsReadingFault images disk (Bad at) = IsTrue (images.tells disk) → IsBadAt at (images.seen disk)
IsReadingFault images disk Disk = ⊤
IsReadingFault images disk Memory = ⊤

-- so many bytes of the output are kept by the checkpoint that reads give
abbrev pub IsKept : {D : Type 0} → Images DiskFile D → D → ℕ → Type 0
IsKept images disk size = IsTrue (images.tells disk) → Keeps size (images.seen disk)

module _ {D K : Type 0} (disks : DiskMeaning D) (reports : SinkMeaning K) (disk : D) (report report_after : K) where
  pub record TellsKept : Type 0 where
    pub size : ℕ
    pub kept : IsKept disks.images disk size
    pub told : Told (Appends (length_line size)) (reports.written report) (reports.written report_after)

  -- The report failed (9), or memory ran out before all of it was told (10).
  pub record TellsPart : Type 0 where
    pub size : ℕ
    pub kept : IsKept disks.images disk size
    pub told : Told (GrowsByPart (length_line size)) (reports.written report) (reports.written report_after)

  -- The checkpoint couldn't be read, for the reason that the status and the report have.
  pub record IsUnread (status : ℕ) : Type 0 where
    pub fault : JournalFault
    pub is : status ≡ status_of (reading_fault fault)
    pub cause : IsReadingFault disks.images disk fault
    pub told : Told (GrowsByPart (fault_line (reading_fault fault))) (reports.written report) (reports.written report_after)

  pub data CommittedEnds : ℕ → Type 0 where
    tells : TellsKept → CommittedEnds 0
    failed : TellsPart → CommittedEnds 9
    no_memory : TellsPart → CommittedEnds 10
    unread : (status : ℕ) → IsUnread status → CommittedEnds status
