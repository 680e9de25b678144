-- What an append and a rewrite make of the images.
use Rattle.std.specs.Prelude.{◌≡◌, ◌⊎◌, ◌+◌, length, Option, Some, None}
use Rattle.outside.specs.Image.{Image}
use Rattle.outside.specs.declared.disk.DiskFile.{DiskFile}
use Rattle.slot_store.specs.ChosenSlot.{chosen_slot}
use Rattle.slot_store.specs.Committed.{KeepsOthers, free_file, next_slot}
use Rattle.slot_store.specs.Frame.{last_number}
use Rattle.record_log.specs.Appended.{slot_before}
use Rattle.record_log.specs.declared.log.Log.{Log}
use Rattle.checkpoint_store.specs.Changed.{changed}
use Rattle.checkpoint_store.specs.Fits.{Fits}
use Rattle.checkpoint_store.specs.Limits.{newest}
use Rattle.checkpoint_store.specs.Spelling.{change_spelling, checkpoint_spelling}
use Rattle.checkpoint_store.specs.declared.Change.{Change}
use Rattle.checkpoint_store.specs.declared.Checkpoint.{Checkpoint}
use Rattle.checkpoint_journal.specs.JournalOf.{log_of, HasJournal, EndsWith}
use Rattle.checkpoint_journal.specs.declared.journal.Journal.{Journal}

-- The image has this journal, its file ends with it, and the change fits its checkpoint.
pub record Awaits (journal : Journal) (change : Change) (image : Image DiskFile) : Type 0 where
  pub checkpoint : Checkpoint
  pub stands : EndsWith journal checkpoint image
  pub fits : Fits newest checkpoint change

-- the journal with one more change, which is written by the newest version
abbrev pub appended : Journal → Change → Journal
appended journal change = record journal { end = journal.end + 17 + length (change_spelling newest change); sequence = journal.sequence + 1 }

-- the journal stays, whatever it makes
abbrev pub KeepsJournal : Journal → Image DiskFile → Image DiskFile → Type 0
KeepsJournal journal old new = (checkpoint : Checkpoint) → HasJournal journal checkpoint old → HasJournal journal checkpoint new

-- The journal has the change behind it, which makes of the checkpoint before what it is to make.
abbrev pub GainsChange : Journal → Change → Image DiskFile → Image DiskFile → Type 0
GainsChange journal change old new = (checkpoint : Checkpoint) → HasJournal journal checkpoint old → Fits newest checkpoint change → EndsWith (appended journal change) (changed checkpoint change) new

-- The journal is the old one or has the change, and each other file stands.
pub record Appends (journal : Journal) (change : Change) (old new : Image DiskFile) : Type 0 where
  pub others : KeepsOthers journal.slot.file old new
  pub choice : KeepsJournal journal old new ⊎ GainsChange journal change old new

-- where the bytes of the journal before stand
abbrev pub log_before : Option Journal → Option Log
log_before None = None
log_before (Some journal) = Some (log_of journal)

-- the file that a rewrite writes
abbrev pub written_file : Option Journal → DiskFile
written_file before = free_file (slot_before (log_before before))

-- the journal of a checkpoint alone, which is written by the newest version
abbrev pub started : Option Journal → Checkpoint → Journal
started before checkpoint =
    let slot = next_slot (slot_before (log_before before)) (checkpoint_spelling newest checkpoint) in
    record { slot = slot; end = length (checkpoint_spelling newest checkpoint) + 17; sequence = slot.sequence; version = newest }

-- The image has this journal, with which its file ends, or no slot is open.
abbrev pub StandsIn : Option Journal → Image DiskFile → Type 0
StandsIn None image = chosen_slot image ≡ None
StandsIn (Some journal) image = (checkpoint : Checkpoint) × EndsWith journal checkpoint image

abbrev pub KeepsOld : Option Journal → Image DiskFile → Image DiskFile → Type 0
KeepsOld None old new = chosen_slot new ≡ None
KeepsOld (Some journal) old new = KeepsJournal journal old new

-- The journal is the old one or that of this checkpoint alone, and each file but the one that is written stands.
pub record Rewrites (before : Option Journal) (checkpoint : Checkpoint) (old new : Image DiskFile) : Type 0 where
  pub others : KeepsOthers (written_file before) old new
  pub choice : KeepsOld before old new ⊎ EndsWith (started before checkpoint) checkpoint new

-- No sequence number comes after that of this journal.
abbrev pub IsWorn : Option Journal → Type 0
IsWorn None = ⊥
IsWorn (Some journal) = journal.sequence ≡ last_number
