-- The causes of a pass's faults.
use Rattle.std.specs.Prelude.{◌≡◌, ℕ, Result, Ok, Err}
use Rattle.outside.specs.Count.{Rose}
use Rattle.outside.specs.declared.fault.CallFault.{CallFault}
use Rattle.file_pass.specs.declared.fault.PassFault.{PassFault}
use Rattle.file_pass.specs.declared.fault.PassFault.TheVariants.{Disk, OutputFull, Memory}

-- what a fault of a call on the disk is for a pass
abbrev pub pass_fault : CallFault → PassFault
pass_fault CallFault.Failed = Disk
pass_fault CallFault.Memory = Memory

-- The disk failed only where its count rose. Any other answer leaves the count as it was.
abbrev pub HasPassCause : {T : Type 0} → Result T PassFault → ℕ → ℕ → Type 0
HasPassCause (Ok _) before after = after ≡ before
HasPassCause (Err Disk) before after = Rose before after
HasPassCause (Err (OutputFull _)) before after = after ≡ before
HasPassCause (Err Memory) before after = after ≡ before
