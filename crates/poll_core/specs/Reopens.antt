-- What opening makes of an image: it loses at most what stands behind the journal and behind what is kept of the output.
use Rattle.std.specs.Prelude.{◌≡◌, ◌⊎◌, ℕ, List, take, Option, Some, None}
use Rattle.checkpoint_journal.specs.JournalOf.{HasCheckpoint}
use Rattle.checkpoint_store.specs.declared.Checkpoint.{Checkpoint}
use Rattle.outside.specs.Image.{Image}
use Rattle.outside.specs.declared.disk.DiskFile.{DiskFile}
use Rattle.outside.specs.declared.disk.DiskFile.TheVariants.{Settings, Output}
use Rattle.record_log.specs.LogOf.{HasLog}
use Rattle.record_log.specs.declared.log.Log.{Log}
use Rattle.slot_store.specs.ChosenSlot.{chosen_slot}

-- The image has the log of the one before, with all that it holds, or still no slot is open.
pub record KeepsLogs (old new : Image DiskFile) : Type 0 where
  pub no_slot : chosen_slot old ≡ None → chosen_slot new ≡ None
  pub log_is : (log : Log) (base : List ℕ) (records : List (List ℕ)) → HasLog log base records old → HasLog log base records new

-- how much of the output is kept
abbrev pub kept_by : Option Checkpoint → ℕ
kept_by None = 0
kept_by (Some checkpoint) = checkpoint.output_length

-- So many bytes of the output are kept by the image's checkpoint, or none where it has none.
abbrev pub Keeps : ℕ → Image DiskFile → Type 0
Keeps size image = (checkpoint : Option Checkpoint) × HasCheckpoint checkpoint image × (size ≡ kept_by checkpoint)

-- The output is what is kept of it.
abbrev pub IsCutToKept : Image DiskFile → List ℕ → Type 0
IsCutToKept old output = (size : ℕ) × Keeps size old × (output ≡ take size (old Output))

pub record Reopens (old new : Image DiskFile) : Type 0 where
  pub settings : new Settings ≡ old Settings
  pub logs : KeepsLogs old new
  pub output : (new Output ≡ old Output) ⊎ IsCutToKept old (new Output)

-- The slots have lost at most what stands behind the journal, and so many bytes of the output are kept.
pub record TrimsSlots (size : ℕ) (old new : Image DiskFile) : Type 0 where
  pub settings : new Settings ≡ old Settings
  pub logs : KeepsLogs old new
  pub output : new Output ≡ old Output
  pub keeps : Keeps size old
