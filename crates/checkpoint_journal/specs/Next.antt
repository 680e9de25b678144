-- The next checkpoint, and the journal that has it.
use Rattle.std.specs.Prelude.{◌≡◌, ℕ, ◌+◌, List, Option, Some, None}
use Rattle.file_tracker.specs.declared.row.Row.{Row}
use Rattle.outside.specs.Image.{Image}
use Rattle.outside.specs.declared.disk.DiskFile.{DiskFile}
use Rattle.checkpoint_store.specs.Changed.{changed}
use Rattle.checkpoint_store.specs.Fits.{Fits}
use Rattle.checkpoint_store.specs.Limits.{newest}
use Rattle.checkpoint_store.specs.Parts.{checkpoint_of_parts, flagged}
use Rattle.checkpoint_store.specs.declared.Change.{Change}
use Rattle.checkpoint_store.specs.declared.Checkpoint.{Checkpoint}
use Rattle.checkpoint_journal.specs.Due.{IsDue}
use Rattle.checkpoint_journal.specs.JournalOf.{HasJournal}
use Rattle.checkpoint_journal.specs.Memory.{EndsWithMemory}
use Rattle.checkpoint_journal.specs.Short.{IsShort}
use Rattle.checkpoint_journal.specs.Written.{appended, started}
use Rattle.checkpoint_journal.specs.declared.journal.Journal.{Journal}
use Rattle.checkpoint_journal.specs.declared.putting.Next.{Next}

-- the change to this checkpoint by these rows
abbrev pub change_to : Checkpoint → List Row → Change
change_to after rows = record { output_length = after.output_length; observed = after.observed; next_id = after.next_id; rows = rows }

-- the change to the next checkpoint, by the rows whose flag is set
abbrev pub change_of_next : Next → Change
change_of_next next = change_to (checkpoint_of_parts next.checkpoint) (flagged next.changed.now next.checkpoint.rows.now)

-- The image has what stood before and ends with it, and the change makes the next checkpoint of it.
pub record AwaitsNext (journal : Option Journal) (after : Checkpoint) (change : Change) (image : Image DiskFile) : Type 0 where
  pub before : Checkpoint
  pub ends : EndsWithMemory journal before image
  pub fits : Fits newest before change
  pub makes : after ≡ changed before change

-- the sequence number of the journal that comes after this one
abbrev pub sequence_after : Option Journal → ℕ
sequence_after None = 1
sequence_after (Some journal) = journal.sequence + 1

-- The image has a journal with the next sequence number, and it makes this checkpoint.
abbrev pub HasNext : Option Journal → Checkpoint → Image DiskFile → Type 0
HasNext before after image = (journal : Journal) × HasJournal journal after image × (journal.sequence ≡ sequence_after before)

-- The journal has the next sequence number. Where that is due it begins anew in the other slot, with the whole checkpoint;
-- else it goes on with the change.
pub record IsNext (before : Option Journal) (after : Checkpoint) (change : Change) (journal : Journal) : Type 0 where
  pub short : IsShort journal
  pub sequence : journal.sequence ≡ sequence_after before
  pub anew : IsDue before after → journal ≡ started before after
  pub goes_on : (own : Journal) → before ≡ Some own → (IsDue before after → ⊥) → journal ≡ appended own change
