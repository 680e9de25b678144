-- Why settings aren't adopted.
use Rattle.std.specs.Prelude.{◌≡◌, ◌≢◌, ℕ, ◌+◌, ◌<◌, ◌≤◌, List, [], flat_map, length, Err, Some, None, ⊤}
use Rattle.checkpoint_journal.specs.JournalOf.{HasCheckpoint, IsBadAt}
use Rattle.checkpoint_store.specs.Limits.{era_limit}
use Rattle.checkpoint_store.specs.declared.Checkpoint.{Checkpoint}
use Rattle.file_pass.specs.Full.{lines_text}
use Rattle.outside.specs.Image.{Image}
use Rattle.outside.specs.declared.disk.DiskFile.{DiskFile}
use Rattle.outside.specs.declared.disk.DiskFile.TheVariants.{Output}
use Rattle.pipeline.specs.declared.fault.BuildFault.{BuildFault}
use Rattle.pipeline.specs.declared.fault.BuildFault.TheVariants as build
use Rattle.pipeline.specs.MadeOf.{HasRules}
use Rattle.pipeline.specs.BuildFaults.{IsNotBuilt}
use Rattle.pipeline.specs.Foreign.{IsLeastForeign}
use Rattle.poll_core.specs.Overflows.{FirstPast}
use Rattle.poll_core.specs.Sequence.{HasSequence}
use Rattle.poll_core.specs.SessionParts.{last_text}
use Rattle.poll_core.specs.declared.adopt_fault.AdoptFault.{AdoptFault}
use Rattle.poll_core.specs.declared.adopt_fault.AdoptFault.TheVariants.{Settings as RefusesSettings, Build, NothingKept, CheckpointBad, KeptSettings, Kept, OutputShort, Fingerprint, Eras, OutputFull, Worn, Memory}
use Rattle.settings_text.specs.Grammar.{settings}
use Rattle.settings_text.specs.declared.fault.SettingsFault.{SettingsFault}
use Rattle.settings_text.specs.declared.fault.SettingsFault.TheVariants as text_fault
use Rattle.slot_store.specs.Frame.{last_number}
use Rattle.standing.specs.Adopted.{closing_time, lines_closed}
use Rattle.standing.specs.Marks.{Mark}
use Rattle.standing.specs.Rows.{KeepStates}
use Rattle.standing.specs.Rules.{Rules}

-- ---- of the settings that are to be adopted

-- The text is read before its operators are made, and these before the disk is asked.
abbrev pub IsNextRefusal : List ℕ → AdoptFault → Type 0
IsNextRefusal text (RefusesSettings fault) = (fault ≢ text_fault.Memory) × (settings text ≡ Err fault)
IsNextRefusal text (Build fault) = (fault ≢ build.Memory) × IsNotBuilt text fault
IsNextRefusal text Memory = ⊤
IsNextRefusal text fault = (rules : Rules) × HasRules text rules

-- of those that are kept
abbrev pub IsKeptRefusal : List ℕ → AdoptFault → Type 0
IsKeptRefusal text (KeptSettings fault) = (fault ≢ text_fault.Memory) × (settings text ≡ Err fault)
IsKeptRefusal text (Kept fault) = (fault ≢ build.Memory) × IsNotBuilt text fault
IsKeptRefusal text Memory = ⊤
IsKeptRefusal text fault = ⊥

-- ---- of what stands on the disk

-- the image's checkpoint
abbrev pub HasSaved : Image DiskFile → Checkpoint → Type 0
HasSaved image before = HasCheckpoint (Some before) image

-- the settings that are kept can't be read, for this reason
pub record HasBadSettings (image : Image DiskFile) (fault : SettingsFault) : Type 0 where
  pub before : Checkpoint
  pub has : HasSaved image before
  pub cause : IsKeptRefusal (last_text before.eras) (KeptSettings fault)

-- they can, but no operators can be made of them
pub record HasBadOperators (image : Image DiskFile) (fault : BuildFault) : Type 0 where
  pub before : Checkpoint
  pub has : HasSaved image before
  pub cause : IsKeptRefusal (last_text before.eras) (Kept fault)

-- the rules of the settings that are kept
pub record HasOwnRules (image : Image DiskFile) : Type 0 where
  pub before : Checkpoint
  pub has : HasSaved image before
  pub rules : Rules
  pub rules_are : HasRules (last_text before.eras) rules

-- What is kept can be gone on with, and the text says other settings.
pub record IsOfOther (text : List ℕ) (image : Image DiskFile) (own : HasOwnRules image) (next : Rules) : Type 0 where
  pub states : KeepStates own.rules own.before.rows
  pub enough : own.before.output_length ≤ length (image Output)
  pub other_text : last_text own.before.eras ≢ text
  pub next_are : HasRules text next

-- Besides, files are known by as many bytes, and the settings may be followed by others.
pub record MayFollow (text : List ℕ) (image : Image DiskFile) (own : HasOwnRules image) : Type 0 where
  pub next : Rules
  pub of_other : IsOfOther text image own next
  pub one_front_size : next.front_size ≡ own.rules.front_size
  pub few : length own.before.eras < era_limit

-- the lines of what is held back, row by row
abbrev pub all_closed : Rules → Checkpoint → List Mark
all_closed rules before = flat_map (lines_closed rules (closing_time rules before.observed)) before.rows

-- none is held back, or with them the output is no longer than its limit
abbrev pub HaveRoom : ℕ → Rules → Checkpoint → Type 0
HaveRoom limit rules before = all_closed rules before ≢ [] → before.output_length + length (lines_text (all_closed rules before)) ≤ limit

-- settings of a text aren't adopted over the image
pub data IsUnadopted (text : List ℕ) (limit : ℕ) (image : Image DiskFile) : AdoptFault → Type 0 where
  nothing_kept : HasCheckpoint None image → IsUnadopted text limit image NothingKept
  no_reading : (at : ℕ) → IsBadAt at image → IsUnadopted text limit image (CheckpointBad at)
  bad_settings : (fault : SettingsFault) → HasBadSettings image fault → IsUnadopted text limit image (KeptSettings fault)
  bad_operators : (fault : BuildFault) → HasBadOperators image fault → IsUnadopted text limit image (Kept fault)
  foreign_state : (id : ℕ) (own : HasOwnRules image) → IsLeastForeign own.rules own.before.rows id → IsUnadopted text limit image (CheckpointBad id)
  short_output : (size : ℕ) (own : HasOwnRules image) → KeepStates own.rules own.before.rows → size ≡ length (image Output) → size < own.before.output_length
      → IsUnadopted text limit image (OutputShort own.before.output_length size)
  other_fingerprint : (own : HasOwnRules image) (next : Rules) → IsOfOther text image own next → own.rules.front_size ≢ next.front_size
      → IsUnadopted text limit image (Fingerprint own.rules.front_size next.front_size)
  too_many : (own : HasOwnRules image) (next : Rules) → IsOfOther text image own next → next.front_size ≡ own.rules.front_size → length own.before.eras ≡ era_limit
      → IsUnadopted text limit image Eras
  full : (size : ℕ) (own : HasOwnRules image) → MayFollow text image own → FirstPast limit own.before.output_length (all_closed own.rules own.before) size
      → IsUnadopted text limit image (OutputFull size)
  worn : (own : HasOwnRules image) → MayFollow text image own → HaveRoom limit own.rules own.before → HasSequence image last_number → IsUnadopted text limit image (Worn last_number)
