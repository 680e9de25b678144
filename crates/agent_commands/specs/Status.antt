-- The exit statuses, and the line that tells each fault.
use Rattle.std.specs.Prelude.{◌≡◌, ◌⊎◌, ℕ, List, ◌++◌, codes, decimal}
use Rattle.agent_commands.specs.Refusal.{settings_words, build_words}
use Rattle.agent_commands.specs.declared.fault.Fault.{Fault}
use Rattle.agent_commands.specs.declared.fault.Fault.TheVariants.{Usage, Settings, Build, CheckpointBad, SettingsChanged, OutputShort, Disk, Control, Memory, OutputFull, ControlLine, Worn, ControlLong, NothingKept, Eras, Fingerprint, KeptSettings, KeptBuild, Differs, FlushOn, Large}

abbrev pub status_of : Fault → ℕ
status_of Usage = 2
status_of (Settings _) = 3
status_of (Build _) = 3
status_of (CheckpointBad _) = 4
status_of (SettingsChanged _) = 5
status_of (OutputShort _ _) = 6
status_of Disk = 7
status_of Control = 8
status_of Memory = 10
status_of (OutputFull _) = 11
status_of (ControlLine _) = 12
status_of Worn = 13
status_of ControlLong = 15
status_of NothingKept = 16
status_of Eras = 17
status_of (Fingerprint _ _) = 18
status_of (KeptSettings _) = 19
status_of (KeptBuild _) = 19
status_of (Differs _ _) = 20
status_of FlushOn = 21
status_of (Large _) = 22

-- the line that reports a fault
abbrev pub fault_line : Fault → List ℕ
fault_line Usage = codes "fault 2 usage\n"
fault_line (Settings fault) = codes "fault 3 " ++ settings_words fault ++ codes "\n"
fault_line (Build fault) = codes "fault 3 " ++ build_words fault ++ codes "\n"
fault_line (CheckpointBad at) = codes "fault 4 checkpoint " ++ decimal at ++ codes "\n"
fault_line (SettingsChanged at) = codes "fault 5 changed " ++ decimal at ++ codes "\n"
fault_line (OutputShort kept found) = codes "fault 6 short " ++ decimal kept ++ codes " " ++ decimal found ++ codes "\n"
fault_line Disk = codes "fault 7 disk\n"
fault_line Control = codes "fault 8 control\n"
fault_line Memory = codes "fault 10 memory\n"
fault_line (OutputFull length) = codes "fault 11 full " ++ decimal length ++ codes "\n"
fault_line (ControlLine number) = codes "fault 12 control-line " ++ decimal number ++ codes "\n"
fault_line Worn = codes "fault 13 worn\n"
fault_line ControlLong = codes "fault 15 control-long\n"
fault_line NothingKept = codes "fault 16 nothing-kept\n"
fault_line Eras = codes "fault 17 eras\n"
fault_line (Fingerprint kept found) = codes "fault 18 fingerprint " ++ decimal kept ++ codes " " ++ decimal found ++ codes "\n"
fault_line (KeptSettings fault) = codes "fault 19 kept " ++ settings_words fault ++ codes "\n"
fault_line (KeptBuild fault) = codes "fault 19 kept " ++ build_words fault ++ codes "\n"
fault_line (Differs file line) = codes "fault 20 differs " ++ decimal file ++ codes " " ++ decimal line ++ codes "\n"
fault_line FlushOn = codes "fault 21 flush-on\n"
fault_line (Large length) = codes "fault 22 large " ++ decimal length ++ codes "\n"

-- The statuses that there are: success, a fault's, and 9 where the report failed.
abbrev pub IsStatus : ℕ → Type 0
IsStatus status = (status ≡ 0) ⊎ (status ≡ 9) ⊎ ((fault : Fault) × (status ≡ status_of fault))
