-- Why a folder isn't audited, as what stands on the disk tells it.
use Rattle.std.specs.Prelude.{◌≡◌, ◌≢◌, ℕ, ◌<◌, ◌≤◌, List, [], length, Err, Some, None, slice_get, ⊤}
use Rattle.std.specs.List.{Any}
use Rattle.checkpoint_journal.specs.JournalOf.{HasCheckpoint, IsBadAt}
use Rattle.checkpoint_store.specs.declared.Checkpoint.{Checkpoint}
use Rattle.folder_audit.specs.Limits.{largest_kept}
use Rattle.pipeline.specs.MadeOf.{IsMadeOf}
use Rattle.folder_audit.specs.Made.{ArePipesOf}
use Rattle.folder_audit.specs.KeptFiles.{IsLast}
use Rattle.folder_audit.specs.declared.fault.AuditFault.{AuditFault}
use Rattle.folder_audit.specs.declared.fault.AuditFault.TheVariants.{Disk, NothingKept, CheckpointBad, KeptSettings, KeptBuild, OutputShort, FlushOn, Large, Differs, Memory}
use Rattle.outside.specs.Image.{Image}
use Rattle.outside.specs.declared.disk.DiskFile.{DiskFile}
use Rattle.outside.specs.declared.disk.DiskFile.TheVariants.{Output}
use Rattle.pipeline.specs.AsRules.{rules_of}
use Rattle.pipeline.specs.BuildFaults.{IsNotBuilt}
use Rattle.pipeline.specs.Foreign.{IsLeastForeign}
use Rattle.pipeline.specs.Parts.{settings_of}
use Rattle.pipeline.specs.declared.Pipeline.{Pipeline}
use Rattle.pipeline.specs.declared.fault.BuildFault.TheVariants as build
use Rattle.settings_text.specs.Grammar.{settings}
use Rattle.settings_text.specs.declared.fault.SettingsFault.TheVariants as text_fault
use Rattle.standing.specs.Rows.{KeepStates}

-- of the text nothing is made, for this reason
abbrev pub IsRefusedText : List ℕ → AuditFault → Type 0
IsRefusedText text (KeptSettings fault) = (fault ≢ text_fault.Memory) × (settings text ≡ Err fault)
IsRefusedText text (KeptBuild fault) = (fault ≢ build.Memory) × IsNotBuilt text fault
IsRefusedText text Memory = ⊤
IsRefusedText text fault = ⊥

-- the first of the texts of which nothing is made
pub record IsFirstRefused (texts : List (List ℕ)) (fault : AuditFault) : Type 0 where
  pub earlier : ℕ
  pub text : List ℕ
  pub there : slice_get texts earlier ≡ Some text
  pub made : (place : ℕ) (other : List ℕ) → place < earlier → slice_get texts place ≡ Some other → (pipe : Pipeline) × IsMadeOf other pipe
  pub refused : IsRefusedText text fault

-- the checkpoint that the image has, and the operators of each of its eras
pub record IsReady (image : Image DiskFile) (checkpoint : Checkpoint) (pipes : List Pipeline) (last : Pipeline) : Type 0 where
  pub has : HasCheckpoint (Some checkpoint) image
  pub made : ArePipesOf checkpoint.eras pipes
  pub is_last : IsLast pipes last

abbrev pub Flush : List Pipeline → Type 0
Flush pipes = Any (λ (pipe : Pipeline). 0 < (settings_of pipe).flush_after_polls) pipes

-- Besides, each row keeps a state of the last operators, and the output is as long as is kept of it.
pub record IsWhole (image : Image DiskFile) (checkpoint : Checkpoint) (pipes : List Pipeline) (last : Pipeline) : Type 0 where
  pub ready : IsReady image checkpoint pipes last
  pub states : KeepStates (rules_of [] last) checkpoint.rows
  pub enough : checkpoint.output_length ≤ length (image Output)

-- the folder isn't audited, for this reason
pub data IsUnaudited (image : Image DiskFile) : AuditFault → Type 0 where
  nothing_kept : HasCheckpoint None image → IsUnaudited image NothingKept
  no_reading : (at : ℕ) → IsBadAt at image → IsUnaudited image (CheckpointBad at)
  kept_refused : (checkpoint : Checkpoint) (fault : AuditFault) → HasCheckpoint (Some checkpoint) image → IsFirstRefused checkpoint.eras fault → IsUnaudited image fault
  foreign_state : (id : ℕ) (checkpoint : Checkpoint) (pipes : List Pipeline) (last : Pipeline) → IsReady image checkpoint pipes last → IsLeastForeign (rules_of [] last) checkpoint.rows id → IsUnaudited image (CheckpointBad id)
  short_output : (size : ℕ) (checkpoint : Checkpoint) (pipes : List Pipeline) (last : Pipeline) → IsReady image checkpoint pipes last → KeepStates (rules_of [] last) checkpoint.rows
      → size ≡ length (image Output) → size < checkpoint.output_length → IsUnaudited image (OutputShort checkpoint.output_length size)
  flush_on : (checkpoint : Checkpoint) (pipes : List Pipeline) (last : Pipeline) → IsWhole image checkpoint pipes last → Flush pipes → IsUnaudited image FlushOn
  large : (checkpoint : Checkpoint) (pipes : List Pipeline) (last : Pipeline) → IsWhole image checkpoint pipes last → (Flush pipes → ⊥) → largest_kept < checkpoint.output_length
      → IsUnaudited image (Large checkpoint.output_length)

-- Want of memory is free, and a fault of the disk has its own clause. No row is compared yet.
abbrev pub IsRefusal : Image DiskFile → AuditFault → Type 0
IsRefusal image Disk = ⊤
IsRefusal image Memory = ⊤
IsRefusal image (Differs file line) = ⊥
IsRefusal image fault = IsUnaudited image fault

-- the same where rows were compared: one that differs has its own clause
abbrev pub IsAuditRefusal : Image DiskFile → AuditFault → Type 0
IsAuditRefusal image (Differs file line) = ⊤
IsAuditRefusal image fault = IsRefusal image fault
