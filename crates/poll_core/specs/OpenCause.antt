-- The causes of faults at opening, as counts tell them, and what faults of calls are there.
use Rattle.std.specs.Prelude.{◌≡◌, ℕ, Result, Ok, Err, ⊤}
use Rattle.checkpoint_journal.specs.declared.fault.JournalFault.{JournalFault}
use Rattle.checkpoint_journal.specs.declared.fault.JournalFault.TheVariants as journal
use Rattle.outside.specs.Count.{Rose}
use Rattle.outside.specs.declared.fault.CallFault.{CallFault}
use Rattle.outside.specs.declared.fault.CallFault.TheVariants as call
use Rattle.pipeline.specs.declared.fault.BuildFault.{BuildFault}
use Rattle.pipeline.specs.declared.fault.BuildFault.TheVariants as build
use Rattle.poll_core.specs.declared.fault.OpenFault.{OpenFault}
use Rattle.poll_core.specs.declared.fault.OpenFault.TheVariants.{Settings, Build, Disk, CheckpointBad, SettingsChanged, OutputShort, Memory}
use Rattle.settings_text.specs.declared.fault.SettingsFault.{SettingsFault}
use Rattle.settings_text.specs.declared.fault.SettingsFault.TheVariants as text

-- The disk failed only where its count rose. Any other answer leaves the count as it was.
abbrev pub HasOpenCause : {T : Type 0} → Result T OpenFault → ℕ → ℕ → Type 0
HasOpenCause (Ok _) before after = after ≡ before
HasOpenCause (Err (Settings _)) before after = after ≡ before
HasOpenCause (Err (Build _)) before after = after ≡ before
HasOpenCause (Err Disk) before after = Rose before after
HasOpenCause (Err (CheckpointBad _)) before after = after ≡ before
HasOpenCause (Err (SettingsChanged _)) before after = after ≡ before
HasOpenCause (Err (OutputShort _ _)) before after = after ≡ before
HasOpenCause (Err Memory) before after = after ≡ before

-- a refusal of the settings
abbrev pub IsOfSettings : OpenFault → Type 0
IsOfSettings (Settings _) = ⊤
IsOfSettings (Build _) = ⊤
IsOfSettings Disk = ⊥
IsOfSettings (CheckpointBad _) = ⊥
IsOfSettings (SettingsChanged _) = ⊥
IsOfSettings (OutputShort _ _) = ⊥
IsOfSettings Memory = ⊥

-- a refusal of what stands on the disk
abbrev pub IsOfContents : OpenFault → Type 0
IsOfContents (Settings _) = ⊥
IsOfContents (Build _) = ⊥
IsOfContents Disk = ⊥
IsOfContents (CheckpointBad _) = ⊤
IsOfContents (SettingsChanged _) = ⊤
IsOfContents (OutputShort _ _) = ⊤
IsOfContents Memory = ⊥

abbrev pub call_refusal : CallFault → OpenFault
call_refusal call.Failed = Disk
call_refusal call.Memory = Memory

abbrev pub journal_refusal : JournalFault → OpenFault
journal_refusal journal.Disk = Disk
journal_refusal (journal.Bad at) = CheckpointBad at
journal_refusal journal.Memory = Memory

abbrev pub settings_refusal : SettingsFault → OpenFault
settings_refusal text.Memory = Memory
settings_refusal fault = Settings fault

abbrev pub build_refusal : BuildFault → OpenFault
build_refusal build.Memory = Memory
build_refusal fault = Build fault
