-- What an audit leaves, and that it agrees with what stands.
use Rattle.std.proofs.Common.{◌≡◌, ◌≤◌, ℕ, List, Option, None, Some, IsTrue, take, length, refl, sym, subst, arith, inl, inr}
use Rattle.checkpoint_journal.proofs.JournalLaws.{one_said}
use Rattle.checkpoint_store.specs.declared.Checkpoint.{Checkpoint}
use Rattle.checkpoint_store.specs.Limits.{newest}
use Rattle.checkpoint_store.specs.Rules.{IsCheckpoint}
use Rattle.auditor.specs.declared.Verdict.TheVariants.{Differs}
use Rattle.file_pass.specs.TreeTerms.{GoesLater}
use Rattle.folder_audit.specs.Audited.{Course, FewAbsent, Hold, IsAudited, IsDiffering}
use Rattle.folder_audit.specs.Judged.{Judged, pipes_of}
use Rattle.folder_audit.specs.KeptFiles.{IsFitRow, IsLast}
use Rattle.folder_audit.specs.Limits.{largest_kept}
use Rattle.folder_audit.specs.Made.{ArePipesOf}
use Rattle.folder_audit.specs.Absences.{AreAbsences}
use Rattle.folder_audit.specs.declared.audited.Audited.{Audited}
use Rattle.folder_audit.specs.declared.fault.AuditFault.{AuditFault}
use Rattle.folder_audit.specs.declared.fault.AuditFault.TheVariants as fault
use Rattle.outside.proofs.Telling.{told_weaker}
use Rattle.outside.specs.Count.{raised}
use Rattle.outside.specs.Crash.{Passes}
use Rattle.outside.specs.Image.{Image, Same}
use Rattle.outside.specs.Images.{Images}
use Rattle.outside.specs.TreeMeaning.{TreeMeaning}
use Rattle.outside.specs.World.{World, Told}
use Rattle.outside.specs.declared.disk.DiskFile.{DiskFile}
use Rattle.outside.specs.declared.disk.DiskFile.TheVariants.{Output}
use Rattle.pipeline.specs.declared.Pipeline.{Pipeline}
use Rattle.poll_core.proofs.ImageLemmas.{no_journal}
use Rattle.poll_core.specs.Found.{IsFound}
use Rattle.pipeline.specs.MadeOf.{AreErasOf}
use Rattle.poll_core.specs.Polled.{AreErasIn, IsStanding}
use Rattle.standing.proofs.StandsLemmas.{standing_lasts}
use Rattle.standing.specs.Apart.{Apart}
use Rattle.standing.specs.Eras.{Eras}
use Rattle.standing.specs.Rows.{IsRowAt, Row}
use Rattle.standing.specs.Standing.{Found, nothing, damaged, found, Standing}
use Rattle.standing.specs.Stands.{CheckpointStands}
use Rattle.agent_commands.proofs.StandLemmas.{CountsNow}
use Rattle.agent_commands.specs.Audit.{AgreesWhereItStands, FewWhereItStands}
use Rattle.agent_commands.specs.Faults.{auditing_fault}
use Rattle.agent_commands.specs.Headline.{KeepsStanding}
use Rattle.agent_commands.specs.Status.{status_of}

-- ---- few rows that stand are absent

module _ (image : Image DiskFile) (course : Course image) (faults faults_after : ℕ) (old new : World) (few : FewAbsent course faults faults_after old new) where
  few_saved : (saved : Checkpoint) (eras : Eras) → saved ≡ course.checkpoint → AreErasOf saved.eras eras → CheckpointStands eras old.history saved (image Output) → Apart eras.first.front_size new.history
      → (places : List ℕ) → AreAbsences eras course.checkpoint.rows course.found places old.history new.history → raised faults (length places) ≤ faults_after
  few_saved saved eras same are stands apart places absences =
      let own : AreErasOf course.checkpoint.eras eras = subst (λ (c : Checkpoint). AreErasOf c.eras eras) same are in
      let its : CheckpointStands eras old.history course.checkpoint (image Output) = subst (λ (c : Checkpoint). CheckpointStands eras old.history c (image Output)) same stands in
      few eras places own its apart absences

  few_found : (there : Found) (eras : Eras) → IsFound image there → AreErasIn there eras → Standing eras old.history there (image Output) → Apart eras.first.front_size new.history
      → (places : List ℕ) → AreAbsences eras course.checkpoint.rows course.found places old.history new.history → raised faults (length places) ≤ faults_after
  few_found nothing eras has are stands apart places absences = absurd (no_journal image course.whole.ready.has.0 course.checkpoint has course.whole.ready.has.1)
  few_found damaged eras has are stands apart places absences = absurd stands
  few_found (found saved) eras has are stands apart places absences =
      few_saved saved eras (one_said image course.whole.ready.has.0 has.0 course.checkpoint saved course.whole.ready.has.1 has.1) are stands apart places absences

  few_standing : FewWhereItStands course faults faults_after old new
  few_standing = λ stands places apart absences. few_found stands.there stands.eras stands.found stands.are stands.stands apart places absences

pub few_where_it_stands : {T : Type 0} (trees : TreeMeaning T) (image : Image DiskFile) (given : Audited) (tree tree_after : T) (audit : IsAudited trees image given tree tree_after)
    → Told (FewWhereItStands audit.course (trees.faults tree) (trees.faults tree_after)) (trees.world tree) (trees.world tree_after)
few_where_it_stands trees image given tree tree_after audit =
    told_weaker (FewAbsent audit.course (trees.faults tree) (trees.faults tree_after)) (FewWhereItStands audit.course (trees.faults tree) (trees.faults tree_after)) (trees.world tree) (trees.world tree_after)
    (few_standing image audit.course (trees.faults tree) (trees.faults tree_after)) audit.few_absent

-- ---- no row that stands differs

-- the law of audits
abbrev pub NoneDiffers : Type 0
NoneDiffers = (eras : Eras) (checkpoint : Checkpoint) (file : List ℕ) (pipes : List Pipeline) (last : Pipeline) (place : ℕ) (row : Row) (line : ℕ) (old new : World)
    → AreErasOf checkpoint.eras eras → CheckpointStands eras old.history checkpoint file → IsCheckpoint newest checkpoint
    → checkpoint.output_length ≤ largest_kept → Apart eras.first.front_size new.history → ArePipesOf checkpoint.eras pipes → IsLast pipes last
    → IsRowAt checkpoint.rows place row → IsFitRow (length pipes) place row
    → Judged (pipes_of pipes row) last row (take checkpoint.output_length file) (Differs line) old new → ⊥

module _ (law : NoneDiffers) (image : Image DiskFile) (course : Course image) (old new : World) where
  agreed : (saved : Checkpoint) (eras : Eras) → saved ≡ course.checkpoint → AreErasOf saved.eras eras → CheckpointStands eras old.history saved (image Output) → Apart eras.first.front_size new.history
      → (place : ℕ) (row : Row) (line : ℕ) → IsRowAt course.checkpoint.rows place row → Judged (pipes_of course.pipes row) course.last row (take course.checkpoint.output_length (image Output)) (Differs line) old new → ⊥
  agreed saved eras same are stands apart place row line at judged =
      let own : AreErasOf course.checkpoint.eras eras = subst (λ (c : Checkpoint). AreErasOf c.eras eras) same are in
      let its : CheckpointStands eras old.history course.checkpoint (image Output) = subst (λ (c : Checkpoint). CheckpointStands eras old.history c (image Output)) same stands in
      law eras course.checkpoint (image Output) course.pipes course.last place row line old new own its course.lawful course.small apart
      course.whole.ready.made course.whole.ready.is_last at (course.fit place row at) judged

  by_found : (there : Found) (eras : Eras) → IsFound image there → AreErasIn there eras → Standing eras old.history there (image Output) → Apart eras.first.front_size new.history
      → (place : ℕ) (row : Row) (line : ℕ) → IsRowAt course.checkpoint.rows place row → Judged (pipes_of course.pipes row) course.last row (take course.checkpoint.output_length (image Output)) (Differs line) old new → ⊥
  by_found nothing eras has are stands apart place row line at judged = no_journal image course.whole.ready.has.0 course.checkpoint has course.whole.ready.has.1
  by_found damaged eras has are stands apart place row line at judged = absurd stands
  by_found (found saved) eras has are stands apart place row line at judged =
      agreed saved eras (one_said image course.whole.ready.has.0 has.0 course.checkpoint saved course.whole.ready.has.1 has.1) are stands apart place row line at judged

none_differing : NoneDiffers → {T : Type 0} (trees : TreeMeaning T) (image : Image DiskFile) (id line : ℕ) (tree tree_after : T) (old new : World) → trees.world tree ≡ Some old → trees.world tree_after ≡ Some new
    → IsDiffering trees image id line tree tree_after → (stands : IsStanding old.history image) → Apart stands.eras.first.front_size new.history → ⊥
none_differing law trees image id line tree tree_after old new is_old is_new differing stands apart =
    let course = differing.course in
    let least = differing.least in
    let hold : Told (Hold course) (Some old) (Some new) = subst (λ w. Told (Hold course) (Some old) w) is_new (subst (λ w. Told (Hold course) w (trees.world tree_after)) is_old differing.hold) in
    by_found law image course old new stands.there stands.eras stands.found stands.are stands.stands apart least.place least.row line least.there (hold least.place least.row _ least.there least.differs)

standing_on : (old new : World) → GoesLater old new → (image : Image DiskFile) → IsStanding old.history image → IsStanding new.history image
standing_on old new later image standing = record {
  there = standing.there;
  found = standing.found;
  eras = standing.eras;
  are = standing.are;
  stands = by standing.there standing.are standing.stands;
} where
  by : (there : Found) → AreErasIn there standing.eras → Standing standing.eras old.history there (image Output) → Standing standing.eras new.history there (image Output)
  by nothing are stands = tt
  by damaged are stands = stands
  by (found saved) are stands = standing_lasts standing.eras are.laws old.history new.history (found saved) (image Output) later stands

module _ {D : Type 0} (images : Images DiskFile D) where
  -- memory ran out before anything was read
  pub agrees_unread : (disk : D) (status : ℕ) (now : Option World) → status ≡ 10 → Told (AgreesWhereItStands images disk status) now now
  agrees_unread disk status None is = tt
  agrees_unread disk status (Some world) is = λ tells stands apart twenty. omega (arith, is, twenty)

  -- another status than that of a row that differs
  pub agrees_other : (disk : D) (status : ℕ) (old new : Option World) → Told GoesLater old new → (status ≡ 20 → ⊥) → Told (AgreesWhereItStands images disk status) old new
  agrees_other disk status None None later other = tt
  agrees_other disk status None (Some y) later other = later
  agrees_other disk status (Some x) None later other = later
  agrees_other disk status (Some x) (Some y) later other = λ tells stands apart twenty. other twenty

  -- a row that was found to differ
  pub agrees_differing : NoneDiffers → {T : Type 0} (trees : TreeMeaning T) (disk : D) (status id line : ℕ) (tree tree_after : T) → Told GoesLater (trees.world tree) (trees.world tree_after)
      → (IsTrue (images.tells disk) → IsDiffering trees (images.seen disk) id line tree tree_after) → Told (AgreesWhereItStands images disk status) (trees.world tree) (trees.world tree_after)
  agrees_differing law trees disk status id line tree tree_after later differing = by (trees.world tree) (trees.world tree_after) refl refl later
    where
      by : (old new : Option World) → trees.world tree ≡ old → trees.world tree_after ≡ new → Told GoesLater old new → Told (AgreesWhereItStands images disk status) old new
      by None None is_old is_new goes = tt
      by None (Some y) is_old is_new goes = goes
      by (Some x) None is_old is_new goes = goes
      by (Some x) (Some y) is_old is_new goes = λ tells stands apart twenty. none_differing law trees (images.seen disk) id line tree tree_after x y is_old is_new (differing tells) stands apart

  -- nothing was written while the history went on
  pub read_stands_later : (old new : D) (before after : Option World) → Told GoesLater before after → CountsNow images old → Passes images Same old new → Told (KeepsStanding images old new) before after
  read_stands_later old new None None later counts passes = tt
  read_stands_later old new None (Some y) later counts passes = later
  read_stands_later old new (Some x) None later counts passes = later
  read_stands_later old new (Some x) (Some y) later counts passes = λ tells never apart from early stood image left. elim (passes.since from image early left) [
    | inl past ↦ standing_on x y later image (stood image past)
    | inr past ↦ standing_on x y later image (subst (λ i. IsStanding x.history i) (sym past.2) (stood past.0 (counts from past.0 early past.1)))
  ]

  -- a fault of an audit
  pub agrees_by_fault : NoneDiffers → {T : Type 0} (trees : TreeMeaning T) (disk : D) (status : ℕ) (given : AuditFault) (tree tree_after : T) → status ≡ status_of (auditing_fault given) → Told GoesLater (trees.world tree) (trees.world tree_after)
      → ((id line : ℕ) → given ≡ fault.Differs id line → IsTrue (images.tells disk) → IsDiffering trees (images.seen disk) id line tree tree_after) → Told (AgreesWhereItStands images disk status) (trees.world tree) (trees.world tree_after)
  agrees_by_fault law trees disk status (fault.Differs id line) tree tree_after is later differing = agrees_differing law trees disk status id line tree tree_after later (differing id line refl)
  agrees_by_fault law trees disk status fault.Disk tree tree_after is later differing = agrees_other disk status (trees.world tree) (trees.world tree_after) later (λ e. omega (arith, is, e))
  agrees_by_fault law trees disk status fault.NothingKept tree tree_after is later differing = agrees_other disk status (trees.world tree) (trees.world tree_after) later (λ e. omega (arith, is, e))
  agrees_by_fault law trees disk status (fault.CheckpointBad at) tree tree_after is later differing = agrees_other disk status (trees.world tree) (trees.world tree_after) later (λ e. omega (arith, is, e))
  agrees_by_fault law trees disk status (fault.KeptSettings _) tree tree_after is later differing = agrees_other disk status (trees.world tree) (trees.world tree_after) later (λ e. omega (arith, is, e))
  agrees_by_fault law trees disk status (fault.KeptBuild _) tree tree_after is later differing = agrees_other disk status (trees.world tree) (trees.world tree_after) later (λ e. omega (arith, is, e))
  agrees_by_fault law trees disk status (fault.OutputShort _ _) tree tree_after is later differing = agrees_other disk status (trees.world tree) (trees.world tree_after) later (λ e. omega (arith, is, e))
  agrees_by_fault law trees disk status fault.FlushOn tree tree_after is later differing = agrees_other disk status (trees.world tree) (trees.world tree_after) later (λ e. omega (arith, is, e))
  agrees_by_fault law trees disk status (fault.Large _) tree tree_after is later differing = agrees_other disk status (trees.world tree) (trees.world tree_after) later (λ e. omega (arith, is, e))
  agrees_by_fault law trees disk status fault.Memory tree tree_after is later differing = agrees_other disk status (trees.world tree) (trees.world tree_after) later (λ e. omega (arith, is, e))
