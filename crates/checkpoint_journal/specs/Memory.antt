-- What is remembered in an image: a journal with its checkpoint, or nothing yet.
use Rattle.std.specs.Prelude.{◌≡◌, [], Option, Some, None}
use Rattle.outside.specs.Image.{Image}
use Rattle.outside.specs.declared.disk.DiskFile.{DiskFile}
use Rattle.slot_store.specs.ChosenSlot.{chosen_slot}
use Rattle.checkpoint_store.specs.declared.Checkpoint.{Checkpoint}
use Rattle.checkpoint_journal.specs.JournalOf.{HasJournal, EndsWith}
use Rattle.checkpoint_journal.specs.declared.journal.Journal.{Journal}

-- a checkpoint without files, which keeps nothing of the output and no time
pub record IsEmpty (checkpoint : Checkpoint) : Type 0 where
  pub rows : checkpoint.rows ≡ []
  pub output : checkpoint.output_length ≡ 0
  pub observed : checkpoint.observed ≡ 0

-- The image has this journal, and it makes this checkpoint. Where there is no journal no slot is open.
abbrev pub HasMemory : Option Journal → Checkpoint → Image DiskFile → Type 0
HasMemory None checkpoint image = (chosen_slot image ≡ None) × IsEmpty checkpoint
HasMemory (Some journal) checkpoint image = HasJournal journal checkpoint image

-- Besides, the chosen file ends with the journal.
abbrev pub EndsWithMemory : Option Journal → Checkpoint → Image DiskFile → Type 0
EndsWithMemory None checkpoint image = (chosen_slot image ≡ None) × IsEmpty checkpoint
EndsWithMemory (Some journal) checkpoint image = EndsWith journal checkpoint image

-- what was remembered is remembered, whatever it was
abbrev pub KeepsMemory : Option Journal → Image DiskFile → Image DiskFile → Type 0
KeepsMemory journal old new = (before : Checkpoint) → HasMemory journal before old → HasMemory journal before new
