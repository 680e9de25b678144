-- What stands for the files of a history is kept by each command, however it ends, and wherever it is stopped. After a poll
-- that tells that it is complete, all is taken that the files had.
use Rattle.std.specs.Prelude.{◌≡◌, ℕ, ◌<◌, ◌≤◌, Contains, IsTrue, List}
use Rattle.checkpoint_store.specs.declared.Checkpoint.{Checkpoint}
use Rattle.file_pass.specs.TreeTerms.{GoesLater}
use Rattle.outside.specs.Image.{Image}
use Rattle.outside.specs.Images.{Images}
use Rattle.outside.specs.Lawful.{IsLawful}
use Rattle.outside.specs.World.{History, Told, World}
use Rattle.outside.specs.declared.disk.DiskFile.{DiskFile}
use Rattle.outside.specs.declared.disk.DiskFile.TheVariants.{Settings}
use Rattle.pipeline.specs.MadeOf.{HasRules, AreErasOf}
use Rattle.poll_core.specs.Polled.{IsStanding, IsSummed, Counting, advance}
use Rattle.poll_core.specs.SessionParts.{rules_of_session}
use Rattle.poll_core.specs.Since.{KeepsStandingSince}
use Rattle.poll_core.specs.Summed.{TellsAll}
use Rattle.poll_core.specs.declared.session.Session.{Session}
use Rattle.poll_core.specs.declared.summary.Summary.{Summary}
use Rattle.slot_store.specs.Synced.{EachLeft}
use Rattle.standing.specs.Apart.{Apart}
use Rattle.standing.specs.Eras.{Eras}
use Rattle.standing.specs.Look.{Look, size}
use Rattle.standing.specs.Marks.{Mark}
use Rattle.standing.specs.Moments.{IsLater, IsNamed, KeepsNames}
use Rattle.standing.specs.Rules.{Includes, Rules}
use Rattle.standing.specs.Sums.{IsReached}
use Rattle.agent_commands.specs.Moment.{Moment, Meanings}

-- Files can be told apart by as many of their first bytes as the settings file asks for. Where its settings can't be made, that is
-- no condition.
abbrev pub AreApartBySettings : Image DiskFile → History → Type 0
AreApartBySettings image history = (rules : Rules) → HasRules (image Settings) rules → Apart rules.front_size history

-- the settings file asks for no flush of what waits; where no settings can be read of it, this is no condition
abbrev pub FlushesNothing : Image DiskFile → Type 0
FlushesNothing image = (rules : Rules) → HasRules (image Settings) rules → rules.flush_after ≡ 0

-- Where each image that a crash may have left since some moment stood at the begin, each that it may have left since then stands
-- at the end, whatever settings were in force, and whether or not the settings file has the last of them.
abbrev pub KeepsStanding : {D : Type 0} → Images DiskFile D → D → D → World → World → Type 0
KeepsStanding {D} images disk disk_after old new =
    IsTrue (images.tells disk) → FlushesNothing (images.seen disk) → AreApartBySettings (images.seen disk) new.history → (from : ℕ) → from ≤ images.moment disk
    → ((image : Image DiskFile) → images.left_since disk from image → IsStanding old.history image)
    → (image : Image DiskFile) → images.left_since disk_after from image → IsStanding new.history image

-- What stood at the first moment stands at the second, by the settings with these rules.
pub record KeepsFrom {T D K C : Type 0} (meanings : Meanings T D K C) (rules : Rules) (begun now : Moment T D K C) : Type 0 where
  pub later : meanings.disks.images.moment begun.disk ≤ meanings.disks.images.moment now.disk
  pub goes : Told GoesLater (meanings.trees.world begun.tree) (meanings.trees.world now.tree)
  pub standing : Told (KeepsStandingSince meanings.disks.images rules begun.disk now.disk) (meanings.trees.world begun.tree) (meanings.trees.world now.tree)

-- No file was left unread or passed over, no name was given or taken, and nothing that waits is flushed.
pub record IsComplete (session : Session) (summary : Summary) (old new : World) : Type 0 where
  pub tells_all : TellsAll summary
  pub never : (rules_of_session session).flush_after ≡ 0
  pub lawful : IsLawful new.history
  pub later : IsLater old.history new.history
  pub apart : Apart (rules_of_session session).front_size new.history
  pub names_kept : KeepsNames old.history new.history

-- Each image that a crash may leave of the first disk stands for the history, and the second disk tells its images.
pub record StoodSince {D : Type 0} (images : Images DiskFile D) (history : History) (first now : D) : Type 0 where
  pub each : EachLeft images first (IsStanding history)
  pub tells : IsTrue (images.tells now)

-- The file was looked at in the poll, and unless it was empty then, all that it had then is taken, by the eras of the session.
pub record IsTaken (session : Session) (after : Checkpoint) (looks : List Look) (new : World) (file : ℕ) : Type 0 where
  pub here : Look
  pub looked : Contains looks here
  pub file_is : here.file ≡ file
  pub eras : Eras
  pub are : AreErasOf session.eras eras
  pub reached : 0 < size here → IsReached eras new.history after.rows here

-- After a complete poll each file that has a path to be read is taken, where this stood before.
abbrev pub HoldsAll : Session → Checkpoint → Summary → Type 0 → World → World → Type 0
HoldsAll session after summary Stood old new = (added : List Mark) (counts : Counting) (summed : IsSummed session (advance after added) summary counts old new)
    → IsComplete session summary old new → Stood → (path : List ℕ) (file : ℕ) → Includes (rules_of_session session) path → IsNamed new.history path file
    → IsTaken session after summed.looks new file
