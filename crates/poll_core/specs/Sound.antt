-- What is sound by settings alone, whatever was read: also where no operators can be made of the last ones.
use Rattle.std.specs.Prelude.{◌≡◌, ℕ, ◌≤◌, All, List, length, Ok, ⊤}
use Rattle.checkpoint_store.specs.declared.Checkpoint.{Checkpoint}
use Rattle.outside.specs.Image.{Image}
use Rattle.outside.specs.declared.disk.DiskFile.{DiskFile}
use Rattle.outside.specs.declared.disk.DiskFile.TheVariants.{Output}
use Rattle.poll_core.specs.Found.{IsFound}
use Rattle.pipeline.specs.MadeOf.{HasRules}
use Rattle.poll_core.specs.SessionParts.{last_text}
use Rattle.poll_core.specs.declared.adopt_fault.AdoptFault.{AdoptFault}
use Rattle.poll_core.specs.declared.adopt_fault.AdoptFault.TheVariants.{Settings as RefusesSettings, Build, Disk, NothingKept, CheckpointBad, KeptSettings, Kept, OutputShort, Fingerprint, Eras, OutputFull, Worn, Memory}
use Rattle.settings_text.specs.Grammar.{settings}
use Rattle.settings_text.specs.declared.settings.Settings.{Settings}
use Rattle.standing.specs.Rows.{Row, AreNumbered, KeepStates}
use Rattle.standing.specs.Rules.{Rules}
use Rattle.standing.specs.Standing.{Found, nothing, damaged, found}

-- the text says settings
abbrev pub IsSettings : List ℕ → Type 0
IsSettings text = (said : Settings) × (settings text ≡ Ok said)

-- Where operators can be made of the settings of this text, each row keeps a state of theirs.
abbrev pub KeepStatesOf : List ℕ → List Row → Type 0
KeepStatesOf text rows = (rules : Rules) → HasRules text rules → KeepStates rules rows

-- The checkpoint fits itself and the output file.
pub record IsSoundCheckpoint (checkpoint : Checkpoint) (file : List ℕ) : Type 0 where
  pub settings : All IsSettings checkpoint.eras
  pub states : KeepStatesOf (last_text checkpoint.eras) checkpoint.rows
  pub ids : AreNumbered checkpoint.rows checkpoint.next_id
  pub long_enough : checkpoint.output_length ≤ length file

abbrev pub IsSoundWith : Found → List ℕ → Type 0
IsSoundWith nothing file = ⊤
IsSoundWith damaged file = ⊥
IsSoundWith (found checkpoint) file = IsSoundCheckpoint checkpoint file

-- The image is sound by what it has itself.
pub record IsSoundImage (image : Image DiskFile) : Type 0 where
  pub there : Found
  pub found : IsFound image there
  pub sound : IsSoundWith there (image Output)

-- Why settings aren't adopted, other than that what is kept doesn't fit itself: that no operators can be made of its last
-- settings is among them.
abbrev pub IsOfOthers : AdoptFault → Type 0
IsOfOthers (RefusesSettings _) = ⊤
IsOfOthers (Build _) = ⊤
IsOfOthers Disk = ⊤
IsOfOthers NothingKept = ⊤
IsOfOthers (CheckpointBad _) = ⊥
IsOfOthers (KeptSettings _) = ⊥
IsOfOthers (Kept _) = ⊤
IsOfOthers (OutputShort _ _) = ⊥
IsOfOthers (Fingerprint _ _) = ⊤
IsOfOthers Eras = ⊤
IsOfOthers (OutputFull _) = ⊤
IsOfOthers (Worn _) = ⊤
IsOfOthers Memory = ⊤
