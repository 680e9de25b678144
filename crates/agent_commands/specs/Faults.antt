-- What the faults of a command's calls are, as they are told.
use Rattle.checkpoint_journal.specs.declared.fault.JournalFault.{JournalFault}
use Rattle.checkpoint_journal.specs.declared.fault.JournalFault.TheVariants as journal
use Rattle.folder_audit.specs.declared.fault.AuditFault.{AuditFault}
use Rattle.folder_audit.specs.declared.fault.AuditFault.TheVariants as auditing
use Rattle.poll_core.specs.declared.adopt_fault.AdoptFault.{AdoptFault}
use Rattle.poll_core.specs.declared.adopt_fault.AdoptFault.TheVariants as adopting
use Rattle.poll_core.specs.declared.fault.OpenFault.{OpenFault}
use Rattle.poll_core.specs.declared.fault.OpenFault.TheVariants as opening
use Rattle.poll_core.specs.declared.poll_fault.PollFault.{PollFault}
use Rattle.poll_core.specs.declared.poll_fault.PollFault.TheVariants as polling
use Rattle.agent_commands.specs.declared.fault.Fault.{Fault}
use Rattle.agent_commands.specs.declared.fault.Fault.TheVariants.{Settings, Build, CheckpointBad, SettingsChanged, OutputShort, Disk, Memory, OutputFull, Worn, NothingKept, Eras, Fingerprint, KeptSettings, KeptBuild, Differs, FlushOn, Large}

abbrev pub opening_fault : OpenFault → Fault
opening_fault (opening.Settings fault) = Settings fault
opening_fault (opening.Build fault) = Build fault
opening_fault opening.Disk = Disk
opening_fault (opening.CheckpointBad at) = CheckpointBad at
opening_fault (opening.SettingsChanged at) = SettingsChanged at
opening_fault (opening.OutputShort kept found) = OutputShort kept found
opening_fault opening.Memory = Memory

abbrev pub polling_fault : PollFault → Fault
polling_fault polling.Disk = Disk
polling_fault (polling.OutputFull length) = OutputFull length
polling_fault (polling.Worn _) = Worn
polling_fault polling.Memory = Memory

abbrev pub reading_fault : JournalFault → Fault
reading_fault journal.Disk = Disk
reading_fault (journal.Bad at) = CheckpointBad at
reading_fault journal.Memory = Memory

abbrev pub adopting_fault : AdoptFault → Fault
adopting_fault (adopting.Settings fault) = Settings fault
adopting_fault (adopting.Build fault) = Build fault
adopting_fault adopting.Disk = Disk
adopting_fault adopting.NothingKept = NothingKept
adopting_fault (adopting.CheckpointBad at) = CheckpointBad at
adopting_fault (adopting.KeptSettings fault) = KeptSettings fault
adopting_fault (adopting.Kept fault) = KeptBuild fault
adopting_fault (adopting.OutputShort kept found) = OutputShort kept found
adopting_fault (adopting.Fingerprint kept found) = Fingerprint kept found
adopting_fault adopting.Eras = Eras
adopting_fault (adopting.OutputFull length) = OutputFull length
adopting_fault (adopting.Worn _) = Worn
adopting_fault adopting.Memory = Memory

abbrev pub auditing_fault : AuditFault → Fault
auditing_fault auditing.Disk = Disk
auditing_fault auditing.NothingKept = NothingKept
auditing_fault (auditing.CheckpointBad at) = CheckpointBad at
auditing_fault (auditing.KeptSettings fault) = KeptSettings fault
auditing_fault (auditing.KeptBuild fault) = KeptBuild fault
auditing_fault (auditing.OutputShort kept found) = OutputShort kept found
auditing_fault auditing.FlushOn = FlushOn
auditing_fault (auditing.Large length) = Large length
auditing_fault (auditing.Differs file line) = Differs file line
auditing_fault auditing.Memory = Memory
