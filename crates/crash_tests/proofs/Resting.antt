-- Disks whose images end with a log or a journal, from call to call.
use Rattle.std.proofs.Common.{◌≡◌, Bool, true, List, ℕ, ◌++◌, ◌∷◌, [], length, ap, subst, ◌∙◌, arith}
use Rattle.outside.specs.Crash.{IsDurable}
use Rattle.outside.specs.Images.{Images}
use Rattle.outside.specs.Image.{Image}
use Rattle.outside.specs.declared.disk.DiskFile.{DiskFile}
use Rattle.outside.specs.declared.disk.DiskFile.TheVariants.{SlotA, SlotB}
use Rattle.slot_store.specs.OnlyRead.{OnlyRead}
use Rattle.slot_store.specs.Synced.{EachLeft, LeavesChanged}
use Rattle.mem_world.specs.DiskImages.{LeavesImage}
use Rattle.out_segments.specs.MemLog as story
use Rattle.mem_world.specs.MemDisk.{disk_images, disk_meaning, history_of, seen_of}
use Rattle.mem_world.specs.declared.disk.MemDisk.{MemDisk}
use Rattle.record_log.specs.Appended.{appended, GainsRecord}
use Rattle.record_log.specs.LogOf as bytes
use Rattle.record_log.specs.declared.log.Log.{Log}
use Rattle.checkpoint_store.specs.Fits.{Fits}
use Rattle.checkpoint_store.specs.Limits.{newest}
use Rattle.checkpoint_store.specs.Parts.{flagged}
use Rattle.checkpoint_store.specs.declared.Change.{Change}
use Rattle.checkpoint_store.specs.declared.Checkpoint.{Checkpoint}
use Rattle.file_tracker.specs.declared.row.Row.{Row}
use Rattle.checkpoint_journal.proofs.JournalLaws.{journal_of_slots}
use Rattle.checkpoint_journal.specs.JournalOf.{HasJournal, EndsWith}
use Rattle.checkpoint_journal.specs.Written.{Awaits}
use Rattle.checkpoint_journal.specs.declared.journal.Journal.{Journal}

-- a disk to which nothing was done
pub same_history : {holds : Image DiskFile → Type 0} (old new : MemDisk) → history_of new ≡ history_of old → EachLeft disk_images old holds → EachLeft disk_images new holds
same_history old new same stands = record { each = λ image left. stands.each image (subst (λ (log : story.Log). LeavesImage log image) same left) }

-- the log has one more record
pub ends_again : {D : Type 0} {images : Images DiskFile D} {old new : D} (log : Log) (payload : List ℕ) → EachLeft images old (bytes.EndsWith log) → LeavesChanged images (GainsRecord log payload) old new → EachLeft images new (bytes.EndsWith (appended log payload))
ends_again log payload stands leaves = record {
  each = λ image left.
      let past = leaves.each image left in
      let was = stands.each past.0 past.1 in
      record {
        base = was.base;
        records = was.records ++ payload ∷ [];
        log_is = past.2.log_is was.base was.records was.log_is;
        ends = past.2.ends;
      };
}

pub awaits : (old new : MemDisk) (journal : Journal) (checkpoint : Checkpoint) (change : Change) → history_of new ≡ history_of old → EachLeft disk_images old (EndsWith journal checkpoint) → Fits newest checkpoint change → EachLeft disk_images new (Awaits journal change)
awaits old new journal checkpoint change same stands fits =
    same_history old new same (record { each = λ image left. record { checkpoint = checkpoint; stands = stands.each image left; fits = fits } })

-- the only row, whose flag is set
pub one_flagged : (flags : List Bool) (rows : List Row) → flags ≡ true ∷ [] → length rows ≡ 1 → flagged flags rows ≡ rows
one_flagged flags [] set one = absurd (omega (arith, one))
one_flagged flags (row ∷ []) set one = ap (λ (l : List Bool). flagged l (row ∷ [])) set
one_flagged flags (row ∷ other ∷ rows) set one = absurd (omega (arith, one))

-- a disk of which nothing was left to sync, after it was read
pub at_rest : (old new : MemDisk) (journal : Journal) (checkpoint : Checkpoint) → ((file : DiskFile) → IsDurable disk_images file old) → OnlyRead disk_meaning old new → HasJournal journal checkpoint (seen_of old) → length (seen_of old journal.slot.file) ≡ journal.end → EachLeft disk_images new (EndsWith journal checkpoint)
at_rest old new journal checkpoint durable read has ends = record {
  each = λ image left.
      let past = read.crash.now_left image left in
      let same : (file : DiskFile) → image file ≡ seen_of old file = λ file. ap (λ one. one file) past.2 ∙ durable file past.0 past.1 in
      record {
        journal_is = journal_of_slots (seen_of old) image journal checkpoint (same SlotA) (same SlotB) has;
        ends = ap length (same journal.slot.file) ∙ ends;
      };
}
