-- The causes of an audit's faults, as counts tell them.
use Rattle.std.specs.Prelude.{◌≡◌, ℕ, Result, Ok, Err}
use Rattle.checkpoint_journal.specs.declared.fault.JournalFault.{JournalFault}
use Rattle.checkpoint_journal.specs.declared.fault.JournalFault.TheVariants as journal
use Rattle.folder_audit.specs.declared.fault.AuditFault.{AuditFault}
use Rattle.folder_audit.specs.declared.fault.AuditFault.TheVariants.{Disk, NothingKept, CheckpointBad, KeptSettings, KeptBuild, OutputShort, FlushOn, Large, Differs, Memory}
use Rattle.outside.specs.Count.{Rose}
use Rattle.outside.specs.declared.fault.CallFault.{CallFault}
use Rattle.outside.specs.declared.fault.CallFault.TheVariants as call

-- The disk failed only where its count rose. Any other answer leaves the count as it was.
abbrev pub HasAuditCause : {T : Type 0} → Result T AuditFault → ℕ → ℕ → Type 0
HasAuditCause (Ok _) before after = after ≡ before
HasAuditCause (Err Disk) before after = Rose before after
HasAuditCause (Err NothingKept) before after = after ≡ before
HasAuditCause (Err (CheckpointBad _)) before after = after ≡ before
HasAuditCause (Err (KeptSettings _)) before after = after ≡ before
HasAuditCause (Err (KeptBuild _)) before after = after ≡ before
HasAuditCause (Err (OutputShort _ _)) before after = after ≡ before
HasAuditCause (Err FlushOn) before after = after ≡ before
HasAuditCause (Err (Large _)) before after = after ≡ before
HasAuditCause (Err (Differs _ _)) before after = after ≡ before
HasAuditCause (Err Memory) before after = after ≡ before

abbrev pub audit_call : CallFault → AuditFault
audit_call call.Failed = Disk
audit_call call.Memory = Memory

abbrev pub audit_journal : JournalFault → AuditFault
audit_journal journal.Disk = Disk
audit_journal (journal.Bad at) = CheckpointBad at
audit_journal journal.Memory = Memory
