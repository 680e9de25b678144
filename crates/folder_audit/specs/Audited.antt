-- What an audit answers.
use Rattle.std.specs.Prelude.{ℕ, ◌≤◌, List, length, take}
use Rattle.checkpoint_store.specs.Limits.{newest}
use Rattle.checkpoint_store.specs.Rules.{IsCheckpoint}
use Rattle.checkpoint_store.specs.declared.Checkpoint.{Checkpoint}
use Rattle.folder_audit.specs.Findings.{AreFindings, AreFound}
use Rattle.folder_audit.specs.KeptFiles.{AreFitRows}
use Rattle.folder_audit.specs.Limits.{largest_kept}
use Rattle.pipeline.specs.MadeOf.{AreErasOf}
use Rattle.folder_audit.specs.Absences.{AreAbsences}
use Rattle.folder_audit.specs.Refusals.{Flush, IsWhole}
use Rattle.folder_audit.specs.Tally.{IsLeastOther, IsTallied}
use Rattle.folder_audit.specs.declared.audited.Audited.{Audited}
use Rattle.folder_audit.specs.declared.findings.Finding.{Finding}
use Rattle.outside.specs.Count.{raised}
use Rattle.outside.specs.Image.{Image}
use Rattle.outside.specs.TreeMeaning.{TreeMeaning}
use Rattle.outside.specs.World.{World, Told}
use Rattle.outside.specs.declared.disk.DiskFile.{DiskFile}
use Rattle.outside.specs.declared.disk.DiskFile.TheVariants.{Output}
use Rattle.pipeline.specs.declared.Pipeline.{Pipeline}
use Rattle.standing.specs.Apart.{Apart}
use Rattle.standing.specs.Eras.{Eras}
use Rattle.standing.specs.Stands.{CheckpointStands}

-- what was audited of an image, with what was found of each row
pub record Course (image : Image DiskFile) : Type 0 where
  pub checkpoint : Checkpoint
  pub lawful : IsCheckpoint newest checkpoint
  pub pipes : List Pipeline
  pub last : Pipeline
  pub whole : IsWhole image checkpoint pipes last
  pub flush_off : Flush pipes → ⊥
  pub small : checkpoint.output_length ≤ largest_kept
  pub fit : AreFitRows (length pipes) checkpoint.rows
  pub found : List Finding
  pub are : AreFindings checkpoint.rows found

-- all that was found holds
abbrev pub Hold : {image : Image DiskFile} → Course image → World → World → Type 0
Hold {image} course old new = AreFound course.pipes course.last (take course.checkpoint.output_length (image Output)) course.checkpoint.rows course.found old new

-- Where the checkpoint stands for the history at the beginning, by the eras of its settings, and files can be told apart by their first
-- bytes up to the end: of the rows whose file keeps its name no more were found absent than the tree's count rose by.
abbrev pub FewAbsent : {image : Image DiskFile} → Course image → ℕ → ℕ → World → World → Type 0
FewAbsent {image} course faults faults_after old new =
    (eras : Eras) (places : List ℕ) → AreErasOf course.checkpoint.eras eras → CheckpointStands eras old.history course.checkpoint (image Output)
    → Apart eras.first.front_size new.history → AreAbsences eras course.checkpoint.rows course.found places old.history new.history
    → raised faults (length places) ≤ faults_after

-- No row differs, and so many are counted.
pub record IsAudited {T : Type 0} (meaning : TreeMeaning T) (image : Image DiskFile) (audited : Audited) (old new : T) : Type 0 where
  pub course : Course image
  pub tallied : IsTallied course.checkpoint.rows course.found audited
  pub hold : Told (Hold course) (meaning.world old) (meaning.world new)
  pub few_absent : Told (FewAbsent course (meaning.faults old) (meaning.faults new)) (meaning.world old) (meaning.world new)

-- A row differs, and none with a lower id does.
pub record IsDiffering {T : Type 0} (meaning : TreeMeaning T) (image : Image DiskFile) (id line : ℕ) (old new : T) : Type 0 where
  pub course : Course image
  pub least : IsLeastOther course.checkpoint.rows course.found id line
  pub hold : Told (Hold course) (meaning.world old) (meaning.world new)
