-- The causes of faults when settings are adopted, as counts tell them.
use Rattle.std.specs.Prelude.{◌≡◌, ℕ, Result, Ok, Err, ⊤}
use Rattle.checkpoint_journal.specs.declared.fault.JournalFault.{JournalFault}
use Rattle.checkpoint_journal.specs.declared.fault.JournalFault.TheVariants as journal
use Rattle.outside.specs.Count.{Rose}
use Rattle.outside.specs.declared.fault.CallFault.{CallFault}
use Rattle.outside.specs.declared.fault.CallFault.TheVariants as call
use Rattle.poll_core.specs.declared.adopt_fault.AdoptFault.{AdoptFault}
use Rattle.poll_core.specs.declared.adopt_fault.AdoptFault.TheVariants.{Settings, Build, Disk, NothingKept, CheckpointBad, KeptSettings, Kept, OutputShort, Fingerprint, Eras, OutputFull, Worn, Memory}
use Rattle.slot_store.specs.declared.fault.CommitFault.{CommitFault}
use Rattle.slot_store.specs.declared.fault.CommitFault.TheVariants as commit

-- The disk failed only where its count rose. Any other answer leaves the count as it was.
abbrev pub HasAdoptCause : {T : Type 0} → Result T AdoptFault → ℕ → ℕ → Type 0
HasAdoptCause (Ok _) before after = after ≡ before
HasAdoptCause (Err (Settings _)) before after = after ≡ before
HasAdoptCause (Err (Build _)) before after = after ≡ before
HasAdoptCause (Err Disk) before after = Rose before after
HasAdoptCause (Err NothingKept) before after = after ≡ before
HasAdoptCause (Err (CheckpointBad _)) before after = after ≡ before
HasAdoptCause (Err (KeptSettings _)) before after = after ≡ before
HasAdoptCause (Err (Kept _)) before after = after ≡ before
HasAdoptCause (Err (OutputShort _ _)) before after = after ≡ before
HasAdoptCause (Err (Fingerprint _ _)) before after = after ≡ before
HasAdoptCause (Err Eras) before after = after ≡ before
HasAdoptCause (Err (OutputFull _)) before after = after ≡ before
HasAdoptCause (Err (Worn _)) before after = after ≡ before
HasAdoptCause (Err Memory) before after = after ≡ before

-- a refusal of the settings that are to be adopted
abbrev pub IsOfNext : AdoptFault → Type 0
IsOfNext (Settings _) = ⊤
IsOfNext (Build _) = ⊤
IsOfNext fault = ⊥

-- a refusal of what stands on the disk, or of the settings beside it
abbrev pub IsOfKept : AdoptFault → Type 0
IsOfKept (Settings _) = ⊥
IsOfKept (Build _) = ⊥
IsOfKept Disk = ⊥
IsOfKept Memory = ⊥
IsOfKept fault = ⊤

abbrev pub adopt_call : CallFault → AdoptFault
adopt_call call.Failed = Disk
adopt_call call.Memory = Memory

abbrev pub adopt_journal : JournalFault → AdoptFault
adopt_journal journal.Disk = Disk
adopt_journal (journal.Bad at) = CheckpointBad at
adopt_journal journal.Memory = Memory

abbrev pub adopt_commit : CommitFault → AdoptFault
adopt_commit commit.Disk = Disk
adopt_commit (commit.Worn sequence) = Worn sequence
adopt_commit commit.Memory = Memory
