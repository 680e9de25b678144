-- Why a session isn't opened.
use Rattle.std.specs.Prelude.{◌≡◌, ◌≢◌, ℕ, ◌<◌, ◌≤◌, List, length, Err, Some, ⊤}
use Rattle.checkpoint_journal.specs.JournalOf.{HasCheckpoint, IsBadAt}
use Rattle.checkpoint_store.specs.declared.Checkpoint.{Checkpoint}
use Rattle.outside.specs.Image.{Image}
use Rattle.outside.specs.declared.disk.DiskFile.{DiskFile}
use Rattle.outside.specs.declared.disk.DiskFile.TheVariants.{Output}
use Rattle.pipeline.specs.BuildFaults.{IsNotBuilt}
use Rattle.pipeline.specs.Foreign.{IsLeastForeign}
use Rattle.pipeline.specs.declared.fault.BuildFault.TheVariants as build
use Rattle.poll_core.specs.Differs.{DiffersAt}
use Rattle.pipeline.specs.MadeOf.{HasRules}
use Rattle.poll_core.specs.SessionParts.{last_text}
use Rattle.poll_core.specs.declared.fault.OpenFault.{OpenFault}
use Rattle.poll_core.specs.declared.fault.OpenFault.TheVariants.{Settings as RefusesSettings, Build, CheckpointBad, SettingsChanged, OutputShort, Memory}
use Rattle.settings_text.specs.Grammar.{settings}
use Rattle.settings_text.specs.declared.fault.SettingsFault.TheVariants as text_fault
use Rattle.standing.specs.Rows.{KeepStates}
use Rattle.standing.specs.Rules.{Rules}

-- ---- of the settings

-- The text is read before its operators are made, and these before the disk is asked.
abbrev pub IsSettingsRefusal : List ℕ → OpenFault → Type 0
IsSettingsRefusal text (RefusesSettings fault) = (fault ≢ text_fault.Memory) × (settings text ≡ Err fault)
IsSettingsRefusal text (Build fault) = (fault ≢ build.Memory) × IsNotBuilt text fault
IsSettingsRefusal text Memory = ⊤
IsSettingsRefusal text fault = (rules : Rules) × HasRules text rules

-- ---- of what stands on the disk

-- the image's checkpoint is of the settings of this text
pub record IsOfText (text : List ℕ) (image : Image DiskFile) (checkpoint : Checkpoint) : Type 0 where
  pub has : HasCheckpoint (Some checkpoint) image
  pub settings : last_text checkpoint.eras ≡ text

-- the image's checkpoint is of another text, and this is the first place at which they differ
pub record HasOtherSettings (text : List ℕ) (image : Image DiskFile) (at : ℕ) : Type 0 where
  pub checkpoint : Checkpoint
  pub has : HasCheckpoint (Some checkpoint) image
  pub differ : DiffersAt (last_text checkpoint.eras) text at

pub record HasForeignState (text : List ℕ) (image : Image DiskFile) (id : ℕ) : Type 0 where
  pub checkpoint : Checkpoint
  pub of_text : IsOfText text image checkpoint
  pub rules : Rules
  pub rules_are : HasRules text rules
  pub foreign : IsLeastForeign rules checkpoint.rows id

-- the output has so many bytes, fewer than the checkpoint keeps
pub record HasShortOutput (text : List ℕ) (image : Image DiskFile) (kept size : ℕ) : Type 0 where
  pub checkpoint : Checkpoint
  pub of_text : IsOfText text image checkpoint
  pub rules : Rules
  pub rules_are : HasRules text rules
  pub states : KeepStates rules checkpoint.rows
  pub kept_is : kept ≡ checkpoint.output_length
  pub size_is : size ≡ length (image Output)
  pub short : size < kept

-- no session of this text goes on from the image
pub data IsRefused (text : List ℕ) (image : Image DiskFile) : OpenFault → Type 0 where
  no_reading : (at : ℕ) → IsBadAt at image → IsRefused text image (CheckpointBad at)
  other_settings : (at : ℕ) → HasOtherSettings text image at → IsRefused text image (SettingsChanged at)
  foreign_state : (id : ℕ) → HasForeignState text image id → IsRefused text image (CheckpointBad id)
  short_output : (kept size : ℕ) → HasShortOutput text image kept size → IsRefused text image (OutputShort kept size)
