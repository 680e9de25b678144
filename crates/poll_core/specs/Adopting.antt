-- What becomes of an image when other settings are adopted.
use Rattle.std.specs.Prelude.{◌≡◌, ◌≢◌, ◌⊎◌, ℕ, ◌≤◌, List, [], ◌++◌, length, take, Some}
use Rattle.checkpoint_journal.specs.JournalOf.{HasCheckpoint}
use Rattle.checkpoint_store.specs.Limits.{newest}
use Rattle.checkpoint_store.specs.Rules.{IsCheckpoint}
use Rattle.checkpoint_store.specs.declared.Checkpoint.{Checkpoint}
use Rattle.file_pass.specs.Full.{lines_text}
use Rattle.outside.specs.Image.{Image}
use Rattle.outside.specs.Images.{Images}
use Rattle.outside.specs.declared.disk.DiskFile.{DiskFile}
use Rattle.outside.specs.declared.disk.DiskFile.TheVariants.{Settings, Output}
use Rattle.poll_core.specs.Found.{IsFound}
use Rattle.pipeline.specs.MadeOf.{HasRules}
use Rattle.poll_core.specs.Polled.{IsStanding}
use Rattle.poll_core.specs.Sequence.{HasSequence}
use Rattle.poll_core.specs.SessionParts.{last_text}
use Rattle.poll_core.specs.declared.adopted.Adopted.{Adopted}
use Rattle.outside.specs.World.{History}
use Rattle.slot_store.specs.Frame.{last_number}
use Rattle.standing.specs.Adopted.{Adopts}
use Rattle.standing.specs.Eras.{Eras}
use Rattle.standing.specs.Marks.{Mark}
use Rattle.standing.specs.Rules.{Rules}
use Rattle.standing.specs.Standing.{Found, kept}

-- ---- checkpoints

-- these rules alone
abbrev pub sole_era : Rules → Eras
sole_era rules = record { first = rules; later = [] }

-- The checkpoint is of other settings than this text says. Its files' last parts end, what its operators held back comes out as
-- these lines, and an empty part under the settings of the text follows.
pub record IsAdoption (text : List ℕ) (before after : Checkpoint) (added : List Mark) : Type 0 where
  pub other_text : last_text before.eras ≢ text
  pub rules : Rules
  pub rules_are : HasRules (last_text before.eras) rules
  pub next : Rules
  pub next_are : HasRules text next
  pub one_front_size : next.front_size ≡ rules.front_size
  pub adopts : Adopts (sole_era rules) next before after added
  pub lawful : IsCheckpoint newest after

-- the settings of the text are in force already
pub record IsInForce (text : List ℕ) (before after : Checkpoint) (added : List Mark) : Type 0 where
  pub same_text : last_text before.eras ≡ text
  pub same : after ≡ before
  pub none : added ≡ []

-- ---- images

-- The next run finds what it would have found, and keeps as much of the output.
pub record KeepsAll (old new : Image DiskFile) : Type 0 where
  pub there : (there : Found) → IsFound old there → IsFound new there
  pub output : (there : Found) → IsFound old there → kept there (new Output) ≡ kept there (old Output)

-- There was room for these lines beside the others, and a sequence number was left.
pub record HadRoom (limit : ℕ) (old : Image DiskFile) (after : Checkpoint) (added : List Mark) : Type 0 where
  pub within : added ≢ [] → after.output_length ≤ limit
  pub not_worn : HasSequence old last_number → ⊥

-- how many files are known, lines came out and settings were in force, and how many bytes of the output are kept
pub record TellsAdopted (after : Checkpoint) (added : List Mark) (adopted : Adopted) : Type 0 where
  pub rows : adopted.rows ≡ length after.rows
  pub lines : adopted.lines ≡ length added
  pub eras : adopted.eras ≡ length after.eras
  pub output : adopted.output ≡ after.output_length

-- The settings of the text are in force, those before them as they were, and behind the output that was kept stand the lines
-- that came out.
pub record IsAdopted (text : List ℕ) (limit : ℕ) (adopted : Adopted) (old new : Image DiskFile) : Type 0 where
  pub before : Checkpoint
  pub had : HasCheckpoint (Some before) old
  pub after : Checkpoint
  pub has : HasCheckpoint (Some after) new
  pub added : List Mark
  pub change : IsInForce text before after added ⊎ (IsAdoption text before after added × HadRoom limit old after added)
  pub enough : before.output_length ≤ length (old Output)
  pub output : new Output ≡ take before.output_length (old Output) ++ lines_text added
  pub told : TellsAdopted after added adopted

-- whatever adopting answers
pub record MayAdopt (text : List ℕ) (limit : ℕ) (old new : Image DiskFile) : Type 0 where
  pub settings : new Settings ≡ old Settings
  pub choice : KeepsAll old new ⊎ ((adopted : Adopted) × IsAdopted text limit adopted old new)

-- ---- what stands

-- Where each image that a crash may have left since some moment stood at the begin, each that it may have left since then stands
-- at the end.
abbrev pub KeepsStandingIn : {D : Type 0} → Images DiskFile D → History → D → D → Type 0
KeepsStandingIn {D} images history disk disk_after =
    (from : ℕ) → from ≤ images.moment disk → ((image : Image DiskFile) → images.left_since disk from image → IsStanding history image)
    → (image : Image DiskFile) → images.left_since disk_after from image → IsStanding history image
