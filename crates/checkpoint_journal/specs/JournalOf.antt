-- The journal of an image, and its checkpoint.
use Rattle.std.specs.Prelude.{◌≡◌, ℕ, List, length, map, Option, Some, None}
use Rattle.outside.specs.Image.{Image}
use Rattle.outside.specs.declared.disk.DiskFile.{DiskFile}
use Rattle.slot_store.specs.ChosenSlot.{chosen_slot}
use Rattle.record_log.specs.LogOf.{HasLog}
use Rattle.record_log.specs.declared.log.Log.{Log}
use Rattle.record_log.specs.declared.reading.Contents.{Contents}
use Rattle.checkpoint_store.specs.declared.Checkpoint.{Checkpoint}
use Rattle.checkpoint_journal.specs.Says.{Says, Fails}
use Rattle.checkpoint_journal.specs.declared.journal.Journal.{Journal}

-- where the bytes of a journal stand
abbrev pub log_of : Journal → Log
log_of journal = record { slot = journal.slot; end = journal.end; sequence = journal.sequence }

-- the journal of these bytes, whose base has this version
abbrev pub journal_of : Log → ℕ → Journal
journal_of log version = record { slot = log.slot; end = log.end; sequence = log.sequence; version = version }

-- The image has this journal, and it makes this checkpoint: the base, which is of the journal's version, changed by the
-- records in turn.
pub record HasJournal (journal : Journal) (checkpoint : Checkpoint) (image : Image DiskFile) : Type 0 where
  pub base : List ℕ
  pub records : List (List ℕ)
  pub log_is : HasLog (log_of journal) base records image
  pub says : Says journal.version base records checkpoint

-- Besides, the chosen file ends with the journal.
pub record EndsWith (journal : Journal) (checkpoint : Checkpoint) (image : Image DiskFile) : Type 0 where
  pub journal_is : HasJournal journal checkpoint image
  pub ends : length (image journal.slot.file) ≡ journal.end

-- The checkpoint of the image is this one, or it has none because no slot is open.
abbrev pub HasCheckpoint : Option Checkpoint → Image DiskFile → Type 0
HasCheckpoint None image = chosen_slot image ≡ None
HasCheckpoint (Some checkpoint) image = (journal : Journal) × HasJournal journal checkpoint image

-- No slot is open, or the base and each record of the chosen file have a reading.
abbrev pub IsReadable : Image DiskFile → Type 0
IsReadable image = (checkpoint : Option Checkpoint) × HasCheckpoint checkpoint image

-- The base of the chosen file or a record of it has no reading, from this byte on, counted from the base's first.
pub record IsBadAt (at : ℕ) (image : Image DiskFile) : Type 0 where
  pub log : Log
  pub base : List ℕ
  pub records : List (List ℕ)
  pub log_is : HasLog log base records image
  pub fails : Fails base records at

-- what was found in the image
abbrev pub FoundIn : Option (Journal × Checkpoint) → Image DiskFile → Type 0
FoundIn None image = chosen_slot image ≡ None
FoundIn (Some found) image = HasJournal found.0 found.1 image

-- what the bytes of a log say
pub record IsUnderstood (contents : Contents) (journal : Journal) (checkpoint : Checkpoint) : Type 0 where
  pub log_is : log_of journal ≡ contents.log
  pub says : Says journal.version contents.base.items (map (λ payload. payload.items) contents.records.items) checkpoint
