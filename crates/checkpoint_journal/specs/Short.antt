-- What the numbers of a journal keep, whatever a disk has of it.
use Rattle.std.specs.Prelude.{◌≤◌, ◌^◌}
use Rattle.slot_store.specs.ChosenSlot.{IsSlotFile}
use Rattle.checkpoint_journal.specs.declared.journal.Journal.{Journal}

-- It lies in a slot, and its base is no longer than a checkpoint gets.
pub record IsShort (journal : Journal) : Type 0 where
  pub file : IsSlotFile journal.slot.file
  pub base : journal.slot.length ≤ 2 ^ 52
