-- The causes of a commit's faults.
use Rattle.std.specs.Prelude.{◌≡◌, ℕ, Result, Ok, Err}
use Rattle.outside.specs.Count.{Rose}
use Rattle.outside.specs.declared.fault.CallFault.{CallFault}
use Rattle.slot_store.specs.declared.fault.CommitFault.{CommitFault}
use Rattle.slot_store.specs.declared.fault.CommitFault.TheVariants.{Disk, Worn, Memory}

-- what a fault of a call on the disk is for a commit
abbrev pub commit_fault : CallFault → CommitFault
commit_fault CallFault.Failed = Disk
commit_fault CallFault.Memory = Memory

-- The disk failed only where its count rose. Any other answer leaves the count as it was.
abbrev pub HasCommitCause : {T : Type 0} → Result T CommitFault → ℕ → ℕ → Type 0
HasCommitCause (Ok _) before after = after ≡ before
HasCommitCause (Err Disk) before after = Rose before after
HasCommitCause (Err (Worn _)) before after = after ≡ before
HasCommitCause (Err Memory) before after = after ≡ before
