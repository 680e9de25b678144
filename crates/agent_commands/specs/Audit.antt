-- The command `audit`: whether the lines that are kept are those that the files give.
use Rattle.std.specs.Prelude.{◌≡◌, ℕ, ◌≤◌, List, length, IsTrue}
use Rattle.folder_audit.specs.Audited.{Course, IsAudited, IsDiffering}
use Rattle.folder_audit.specs.Absences.{AreAbsences}
use Rattle.folder_audit.specs.Refusals.{IsAuditRefusal}
use Rattle.folder_audit.specs.declared.audited.Audited.{Audited}
use Rattle.folder_audit.specs.declared.fault.AuditFault.{AuditFault}
use Rattle.folder_audit.specs.declared.fault.AuditFault.TheVariants.{Differs}
use Rattle.outside.specs.Count.{raised}
use Rattle.outside.specs.DiskMeaning.{DiskMeaning}
use Rattle.outside.specs.Image.{Image}
use Rattle.outside.specs.Images.{Images}
use Rattle.outside.specs.StreamMeaning.{SinkMeaning}
use Rattle.outside.specs.TreeMeaning.{TreeMeaning}
use Rattle.outside.specs.World.{World, Told}
use Rattle.outside.specs.declared.disk.DiskFile.{DiskFile}
use Rattle.poll_core.specs.Polled.{IsStanding}
use Rattle.standing.specs.Apart.{Apart}
use Rattle.agent_commands.specs.AuditedLine.{audited_line}
use Rattle.agent_commands.specs.Faults.{auditing_fault}
use Rattle.agent_commands.specs.Report.{Appends, GrowsByPart}
use Rattle.agent_commands.specs.Status.{fault_line, status_of}

-- the outside before an audit and after it
pub record Audits (T D K : Type 0) : Type 0 where
  pub tree : T
  pub tree_after : T
  pub disk : D
  pub report : K
  pub report_after : K

abbrev pub audits : {T D K : Type 0} → T → T → D → K → K → Audits T D K
audits tree tree_after disk report report_after = record { tree = tree; tree_after = tree_after; disk = disk; report = report; report_after = report_after }

-- Where what was audited stands for what the files had, and files can be told apart by their first bytes: of the rows whose file keeps
-- its name no more were found absent than the tree's count rose by.
abbrev pub FewWhereItStands : {image : Image DiskFile} → Course image → ℕ → ℕ → World → World → Type 0
FewWhereItStands {image} course faults faults_after old new =
    (stands : IsStanding old.history image) (places : List ℕ) → Apart stands.eras.first.front_size new.history
    → AreAbsences stands.eras course.checkpoint.rows course.found places old.history new.history → raised faults (length places) ≤ faults_after

module _ {T D K : Type 0} (trees : TreeMeaning T) (disks : DiskMeaning D) (reports : SinkMeaning K) (run : Audits T D K) where
  -- what reads give of the disk was audited by the tree's files
  abbrev pub HasAudited : Audited → Type 0
  HasAudited audited = IsTrue (disks.images.tells run.disk) → IsAudited trees (disks.images.seen run.disk) audited run.tree run.tree_after

  pub record TellsAudit : Type 0 where
    pub audited : Audited
    pub has : HasAudited audited
    pub few_absent : (tells : IsTrue (disks.images.tells run.disk))
        → Told (FewWhereItStands (has tells).course (trees.faults run.tree) (trees.faults run.tree_after)) (trees.world run.tree) (trees.world run.tree_after)
    pub told : Told (Appends (audited_line audited)) (reports.written run.report) (reports.written run.report_after)

  -- The report failed (9), or memory ran out before all of it was told (10).
  pub record TellsPart : Type 0 where
    pub audited : Audited
    pub has : HasAudited audited
    pub told : Told (GrowsByPart (audited_line audited)) (reports.written run.report) (reports.written run.report_after)

  -- It wasn't, or a row differs, for the reason that the status and the report have. Want of memory is free, and a fault of the disk
  -- has its own clause.
  pub record IsNotAudited (status : ℕ) : Type 0 where
    pub fault : AuditFault
    pub is : status ≡ status_of (auditing_fault fault)
    pub refused : IsTrue (disks.images.tells run.disk) → IsAuditRefusal (disks.images.seen run.disk) fault
    pub differs : (file line : ℕ) → fault ≡ Differs file line → IsTrue (disks.images.tells run.disk)
        → IsDiffering trees (disks.images.seen run.disk) file line run.tree run.tree_after
    pub told : Told (GrowsByPart (fault_line (auditing_fault fault))) (reports.written run.report) (reports.written run.report_after)

  pub data AuditEnds : ℕ → Type 0 where
    tells : TellsAudit → AuditEnds 0
    failed : TellsPart → AuditEnds 9
    no_memory : TellsPart → AuditEnds 10
    not_audited : (status : ℕ) → IsNotAudited status → AuditEnds status

-- Where what reads give of the disk stands for what the files had, and files can be told apart by their first bytes, no row differs.
abbrev pub AgreesWhereItStands : {D : Type 0} → Images DiskFile D → D → ℕ → World → World → Type 0
AgreesWhereItStands images disk status old new =
    IsTrue (images.tells disk) → (stands : IsStanding old.history (images.seen disk)) → Apart stands.eras.first.front_size new.history → status ≡ 20 → ⊥
