-- The causes of a look at a journal that has no answer.
use Rattle.std.specs.Prelude.{◌≡◌, ℕ, Result, Ok, Err}
use Rattle.outside.specs.Count.{Rose}
use Rattle.outside.specs.declared.fault.CallFault.{CallFault}
use Rattle.checkpoint_journal.specs.declared.fault.JournalFault.{JournalFault}
use Rattle.checkpoint_journal.specs.declared.fault.JournalFault.TheVariants.{Disk, Bad, Memory}

-- what a fault of a call on the disk is for a journal
abbrev pub journal_fault : CallFault → JournalFault
journal_fault CallFault.Failed = Disk
journal_fault CallFault.Memory = Memory

-- The disk failed only where its count rose. Any other answer leaves the count as it was.
abbrev pub HasJournalCause : {T : Type 0} → Result T JournalFault → ℕ → ℕ → Type 0
HasJournalCause (Ok _) before after = after ≡ before
HasJournalCause (Err Disk) before after = Rose before after
HasJournalCause (Err (Bad _)) before after = after ≡ before
HasJournalCause (Err Memory) before after = after ≡ before
