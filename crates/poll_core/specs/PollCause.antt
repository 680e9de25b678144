-- The causes of a poll's faults, and what faults of calls are for it.
use Rattle.std.specs.Prelude.{◌≡◌, ℕ, Result, Ok, Err}
use Rattle.file_pass.specs.declared.fault.PassFault.{PassFault}
use Rattle.file_pass.specs.declared.fault.PassFault.TheVariants as pass
use Rattle.outside.specs.Count.{Rose}
use Rattle.outside.specs.declared.fault.CallFault.{CallFault}
use Rattle.outside.specs.declared.fault.CallFault.TheVariants as call
use Rattle.poll_core.specs.declared.poll_fault.PollFault.{PollFault}
use Rattle.poll_core.specs.declared.poll_fault.PollFault.TheVariants.{Disk, OutputFull, Worn, Memory}
use Rattle.slot_store.specs.declared.fault.CommitFault.{CommitFault}
use Rattle.slot_store.specs.declared.fault.CommitFault.TheVariants as commit

-- The disk failed only where its count rose. Any other answer leaves the count as it was.
abbrev pub HasPollCause : {T : Type 0} → Result T PollFault → ℕ → ℕ → Type 0
HasPollCause (Ok _) before after = after ≡ before
HasPollCause (Err Disk) before after = Rose before after
HasPollCause (Err (OutputFull _)) before after = after ≡ before
HasPollCause (Err (Worn _)) before after = after ≡ before
HasPollCause (Err Memory) before after = after ≡ before

abbrev pub call_fault : CallFault → PollFault
call_fault call.Failed = Disk
call_fault call.Memory = Memory

abbrev pub pass_refusal : PassFault → PollFault
pass_refusal pass.Disk = Disk
pass_refusal (pass.OutputFull length) = OutputFull length
pass_refusal pass.Memory = Memory

abbrev pub commit_refusal : CommitFault → PollFault
commit_refusal commit.Disk = Disk
commit_refusal (commit.Worn sequence) = Worn sequence
commit_refusal commit.Memory = Memory
