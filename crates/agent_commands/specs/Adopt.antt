-- The command `adopt`: the settings file's settings follow those that are kept.
use Rattle.std.specs.Prelude.{◌≡◌, ◌⊎◌, ℕ, IsTrue, List, Option}
use Rattle.checkpoint_store.specs.Limits.{output_limit}
use Rattle.outside.specs.Crash.{Passes}
use Rattle.outside.specs.Image.{Same}
use Rattle.outside.specs.Images.{Images}
use Rattle.outside.specs.World.{Told}
use Rattle.outside.specs.declared.disk.DiskFile.{DiskFile}
use Rattle.outside.specs.declared.disk.DiskFile.TheVariants as file
use Rattle.poll_core.specs.AdoptCause.{IsOfKept, IsOfNext}
use Rattle.poll_core.specs.AdoptFaults.{IsNextRefusal, IsUnadopted}
use Rattle.poll_core.specs.Adopting.{IsAdopted, MayAdopt}
use Rattle.poll_core.specs.declared.adopt_fault.AdoptFault.{AdoptFault}
use Rattle.poll_core.specs.declared.adopted.Adopted.{Adopted}
use Rattle.poll_core.specs.declared.fault.OpenFault.{OpenFault}
use Rattle.slot_store.specs.Committed.{LeavesOne}
use Rattle.slot_store.specs.Synced.{EachLeft}
use Rattle.agent_commands.specs.AdoptedLine.{adopted_line}
use Rattle.agent_commands.specs.Faults.{adopting_fault, opening_fault}
use Rattle.agent_commands.specs.Opens.{IsSettingsFault}
use Rattle.agent_commands.specs.Report.{Appends, GrowsByPart}
use Rattle.agent_commands.specs.Status.{fault_line, status_of}

-- The settings of the settings file are in force after those that reads give of the disk, and a crash leaves that alone.
pub record HasAdopted {D : Type 0} (images : Images DiskFile D) (disk disk_after : D) (adopted : Adopted) : Type 0 where
  pub each : IsTrue (images.tells disk) → EachLeft images disk_after (IsAdopted (images.seen disk file.Settings) output_limit adopted (images.seen disk))
  pub one : LeavesOne images disk_after

-- Why they aren't. Want of memory is free, and a fault of the disk has its own clause.
pub record IsAdoptingFault {D : Type 0} (images : Images DiskFile D) (disk : D) (fault : AdoptFault) : Type 0 where
  pub of_next : IsTrue (images.tells disk) → IsNextRefusal (images.seen disk file.Settings) fault
  pub of_kept : IsTrue (images.tells disk) → IsOfKept fault → IsUnadopted (images.seen disk file.Settings) output_limit (images.seen disk) fault

-- a refusal of the settings, or of what stands on the disk
abbrev pub IsAdoptRefusal : AdoptFault → Type 0
IsAdoptRefusal fault = IsOfNext fault ⊎ IsOfKept fault

-- At each moment a crash leaves what could be left before, or that with the settings of the settings file in force.
abbrev pub AdoptPasses : {D : Type 0} → Images DiskFile D → D → D → Type 0
AdoptPasses images disk disk_after = IsTrue (images.tells disk) → Passes images (MayAdopt (images.seen disk file.Settings) output_limit) disk disk_after

module _ {D : Type 0} (images : Images DiskFile D) (disk disk_after : D) (report report_after : Option (List ℕ)) where
  pub record TellsAdoption : Type 0 where
    pub adopted : Adopted
    pub has : HasAdopted images disk disk_after adopted
    pub told : Told (Appends (adopted_line adopted)) report report_after

  -- The report failed (9), or memory ran out before all of it was told (10).
  pub record TellsPart : Type 0 where
    pub adopted : Adopted
    pub has : HasAdopted images disk disk_after adopted
    pub told : Told (GrowsByPart (adopted_line adopted)) report report_after

  -- The settings file wasn't read, for the reason that the status and the report have, and nothing was written.
  pub record IsNotRead (status : ℕ) : Type 0 where
    pub fault : OpenFault
    pub is : status ≡ status_of (opening_fault fault)
    pub cause : IsSettingsFault images disk fault
    pub told : Told (GrowsByPart (fault_line (opening_fault fault))) report report_after
    pub untouched : Passes images Same disk disk_after

  -- Its settings weren't adopted, for the reason that the status and the report have. A refusal leaves the disk as it was.
  pub record IsNotAdopted (status : ℕ) : Type 0 where
    pub fault : AdoptFault
    pub is : status ≡ status_of (adopting_fault fault)
    pub cause : IsAdoptingFault images disk fault
    pub told : Told (GrowsByPart (fault_line (adopting_fault fault))) report report_after
    pub untouched : IsAdoptRefusal fault → Passes images Same disk disk_after

  pub data AdoptEnds : ℕ → Type 0 where
    tells : TellsAdoption → AdoptEnds 0
    failed : TellsPart → AdoptEnds 9
    no_memory : TellsPart → AdoptEnds 10
    not_read : (status : ℕ) → IsNotRead status → AdoptEnds status
    not_adopted : (status : ℕ) → IsNotAdopted status → AdoptEnds status
