-- What a poll is: a pass of the rules over the files, and what it makes of a disk.
use Rattle.std.specs.Prelude.{◌≡◌, ◌≢◌, ◌⊎◌, ℕ, ◌+◌, ◌-◌, ◌≤◌, All, false, Contains, List, [], ◌++◌, length, Some, slice_get, ⊤}
use Rattle.checkpoint_journal.specs.Costs.{Costs}
use Rattle.checkpoint_journal.specs.Memory.{HasMemory}
use Rattle.checkpoint_journal.specs.Next.{HasNext, IsNext, change_to}
use Rattle.checkpoint_journal.specs.Written.{IsWorn}
use Rattle.checkpoint_store.specs.Fits.{Ascend, HasId}
use Rattle.checkpoint_store.specs.Rules.{IsCheckpoint, beside_of}
use Rattle.checkpoint_store.specs.Limits.{newest}
use Rattle.checkpoint_journal.specs.declared.journal.Journal.{Journal}
use Rattle.checkpoint_store.specs.declared.Checkpoint.{Checkpoint}
use Rattle.file_pass.specs.Cost.{cost_of}
use Rattle.file_pass.specs.Full.{lines_text}
use Rattle.file_pass.specs.Moment.{Meanings, Moment}
use Rattle.file_tracker.specs.declared.row.Row.{Row}
use Rattle.outside.specs.Count.{raised, last_count}
use Rattle.outside.specs.Crash.{Passes}
use Rattle.outside.specs.DiskMeaning.{DiskMeaning}
use Rattle.outside.specs.Image.{Image, KeepsFront}
use Rattle.outside.specs.TreeMeaning.{TreeMeaning}
use Rattle.outside.specs.World.{History, World, Told}
use Rattle.outside.specs.declared.disk.DiskFile.{DiskFile}
use Rattle.outside.specs.declared.disk.DiskFile.TheVariants.{Settings, Output}
use Rattle.poll_core.specs.Found.{IsFound}
use Rattle.pipeline.specs.MadeOf.{AreErasOf}
use Rattle.poll_core.specs.SessionParts.{checkpoint_of_session, is_first, poll_of_session, rules_of_session, journal_of_session, kept_of, limit_of, time_of_session}
use Rattle.poll_core.specs.StandsOn.{StandsOn}
use Rattle.poll_core.specs.Summed.{IsDeep, HasDeepFolder, sums_of}
use Rattle.poll_core.specs.declared.session.Session.{Session}
use Rattle.poll_core.specs.declared.summary.Summary.{Summary}
use Rattle.standing.specs.Eras.{Eras}
use Rattle.standing.specs.Look.{Look}
use Rattle.standing.specs.Marks.{Mark}
use Rattle.standing.specs.Moments.{NamesThroughout}
use Rattle.standing.specs.Pass.{Pass, Stretch, IsReachable, WasHidden, start_at}
use Rattle.standing.specs.Rows.{KeepStates}
use Rattle.standing.specs.Rules.{Includes}
use Rattle.standing.specs.Standing.{Found, nothing, damaged, found, Standing}
use Rattle.standing.specs.Sums.{AreSums, capped}
use Rattle.tree_walk.specs.Walked.{Ascends}

-- ---- the pass

abbrev pub stretch_of : History → History → ℕ → ℕ → Stretch
stretch_of old new before after = record { old = old; new = new; faults_before = before; faults_after = after }

-- the counts of a tree that polls speak of
pub record TreeCounts : Type 0 where
  pub faults : ℕ
  -- the bytes that reads have given
  pub taken : ℕ

abbrev pub counts_of : {T : Type 0} → TreeMeaning T → T → TreeCounts
counts_of trees tree = record { faults = trees.faults tree; taken = trees.taken tree }

-- those before and after
pub record Counting : Type 0 where
  pub before : TreeCounts
  pub after : TreeCounts

abbrev pub counting : {T : Type 0} → TreeMeaning T → T → T → Counting
counting trees old new = record { before = counts_of trees old; after = counts_of trees new }

-- the next checkpoint, and the lines that come before it
pub record Advance : Type 0 where
  pub after : Checkpoint
  pub added : List Mark

abbrev pub advance : Checkpoint → List Mark → Advance
advance after added = record { after = after; added = added }

-- Reads gave no more bytes than the front of each file looked at, and what is read on of it.
abbrev pub ReadsAtMost : Session → List Look → TreeCounts → TreeCounts → Type 0
ReadsAtMost session looks before after = after.taken ≤ before.taken + cost_of (poll_of_session session) looks (start_at (checkpoint_of_session session))

-- There are looks with which the checkpoint became this one, and added these lines.
pub record IsPass (session : Session) (next : Advance) (counts : Counting) (old new : World) : Type 0 where
  pub looks : List Look
  pub pass : Pass (poll_of_session session) (stretch_of old.history new.history counts.before.faults counts.after.faults) looks
      (checkpoint_of_session session) next.after next.added
  pub read : ReadsAtMost session looks counts.before counts.after

-- Besides, the numbers of the summary are theirs, and `deep` counts the folders that were met and lie too deep.
pub record IsSummed (session : Session) (next : Advance) (summary : Summary) (counts : Counting) (old new : World) : Type 0 where
  pub looks : List Look
  pub pass : Pass (poll_of_session session) (stretch_of old.history new.history counts.before.faults counts.after.faults) looks
      (checkpoint_of_session session) next.after next.added
  pub read : ReadsAtMost session looks counts.before counts.after
  pub sums : AreSums (poll_of_session session) (stretch_of old.history new.history counts.before.faults counts.after.faults) looks
      (checkpoint_of_session session) next.after next.added pass (sums_of summary)
  pub deep : List (List ℕ)
  pub deep_once : Ascends deep
  pub deep_is : summary.deep ≡ capped (length deep)
  pub are_deep : (folder : List ℕ) → Contains deep folder → IsDeep (rules_of_session session) old.history new.history folder
  -- a path that lies too deep has such a folder on its way, or met a fault
  pub no_deep_left_out : (path : List ℕ) (file : ℕ) → Includes (rules_of_session session) path → (IsReachable path → ⊥)
      → NamesThroughout old.history new.history path file → HasDeepFolder deep path ⊎ WasHidden pass.misses pass.unlisteds path

-- ---- the disk

-- The checkpoint is the session's, and what is kept of the output stands as it was.
pub record Stays (session : Session) (old new : Image DiskFile) : Type 0 where
  pub settings : new Settings ≡ old Settings
  pub memory : HasMemory (journal_of_session session) (checkpoint_of_session session) new
  pub front : KeepsFront (kept_of session) (old Output) (new Output)

-- The checkpoint is the next one, and the output has these lines behind what it had.
pub record Gains (session : Session) (after : Checkpoint) (added : List Mark) (old new : Image DiskFile) : Type 0 where
  pub settings : new Settings ≡ old Settings
  pub memory : HasNext (journal_of_session session) after new
  pub output : new Output ≡ old Output ++ lines_text added

abbrev pub Steps : Session → Checkpoint → List Mark → Image DiskFile → Image DiskFile → Type 0
Steps session after added old new = Stays session old new ⊎ Gains session after added old new

-- The checkpoint is of the same settings, fits behind the session's with these lines, and is within the limits.
pub record ComesAfter (session : Session) (after : Checkpoint) (added : List Mark) : Type 0 where
  pub eras : after.eras ≡ session.eras
  pub output_length : after.output_length ≡ kept_of session + length (lines_text added)
  pub within : added ≢ [] → after.output_length ≤ limit_of session
  pub lawful : IsCheckpoint newest after
  pub states : KeepStates (rules_of_session session) after.rows

-- A checkpoint stood, and nothing of it changed.
pub record ChangesNothing (session : Session) (after : Checkpoint) : Type 0 where
  pub not_first : is_first session ≡ false
  pub same : after ≡ checkpoint_of_session session

-- These are exactly the rows that the next checkpoint has and the session hadn't, by ascending id.
pub record AreChanged (session : Session) (after : Checkpoint) (rows : List Row) : Type 0 where
  pub ascend : Ascend (beside_of newest after.eras after.output_length) 1 (after.next_id - 1) rows
  pub each : All (λ (row : Row). slice_get after.rows (row.id - 1) ≡ Some row) rows
  pub differ : All (λ (row : Row). slice_get (checkpoint_of_session session).rows (row.id - 1) ≢ Some row) rows
  pub no_other : (place : ℕ) (row : Row) → slice_get after.rows place ≡ Some row → slice_get (checkpoint_of_session session).rows place ≢ Some row → HasId rows row.id

-- What was written to the slots: these rows or, where that was due, the whole checkpoint.
pub record HasCost {D : Type 0} (meaning : DiskMeaning D) (session : Session) (after : Checkpoint) (disk disk_after : D) : Type 0 where
  pub rows : List Row
  pub changed : AreChanged session after rows
  pub costs : Costs (journal_of_session session) after rows (meaning.written disk) (meaning.written disk_after)

-- The session that goes on has the journal that comes next.
abbrev pub HasNextJournal : Session → Session → List Row → Type 0
HasNextJournal session next rows =
    (journal : Journal) × (journal_of_session next ≡ Some journal) × IsNext (journal_of_session session) (checkpoint_of_session next) (change_to (checkpoint_of_session next) rows) journal

-- Nothing was done to the disk, and the journal stays.
pub record LeavesAll {D : Type 0} (session next : Session) (disk disk_after : D) : Type 0 where
  pub journal : journal_of_session next ≡ journal_of_session session
  pub still : disk_after ≡ disk

-- A crash may leave the next checkpoint, which is that of a pass.
pub record MayGain {T D : Type 0} (means : Meanings T D) (session : Session) (old new : Moment T D) : Type 0 where
  pub after : Checkpoint
  pub added : List Mark
  pub comes : ComesAfter session after added
  pub pass : Told (IsPass session (advance after added) (counting means.trees old.tree new.tree)) (means.trees.world old.tree) (means.trees.world new.tree)
  pub crash : Passes means.disks.images (Steps session after added) old.disk new.disk
  pub cost : HasCost means.disks session after old.disk new.disk

-- The failures that are counted raised the tree's count. Names that aren't UTF-8 are counted besides.
pub record RoseBy {T : Type 0} (trees : TreeMeaning T) (failed : ℕ) (tree tree_after : T) : Type 0 where
  pub failures : ℕ
  pub unnamed : ℕ
  pub are : failed ≡ capped (failures + unnamed)
  pub rose : raised (trees.faults tree) failures ≤ trees.faults tree_after
  pub rose_by_names : trees.nameless tree ≤ last_count → trees.nameless tree_after ≡ raised (trees.nameless tree) unnamed

-- A poll that came to its end: the next session is that of a pass, which the summary tells, and stands on the disk.
pub record Polled {T D : Type 0} (means : Meanings T D) (session next : Session) (summary : Summary) (old new : Moment T D) : Type 0 where
  pub rules : rules_of_session next ≡ rules_of_session session
  pub limit : limit_of next ≡ limit_of session
  pub time : time_of_session next ≡ time_of_session session
  pub not_first : is_first next ≡ false
  pub added : List Mark
  pub comes : ComesAfter session (checkpoint_of_session next) added
  pub lines : summary.lines ≡ length added
  pub output : summary.output ≡ kept_of next
  pub failed : RoseBy means.trees summary.failed old.tree new.tree
  pub pass : Told (IsSummed session (advance (checkpoint_of_session next) added) summary (counting means.trees old.tree new.tree)) (means.trees.world old.tree) (means.trees.world new.tree)
  pub stands : StandsOn means.disks.images next new.disk
  pub cost : HasCost means.disks session (checkpoint_of_session next) old.disk new.disk
  -- What changed was kept, and where nothing changed, nothing was done.
  pub kept : (ChangesNothing session (checkpoint_of_session next) → ⊥) → HasNextJournal session next cost.rows
  pub quiet : ChangesNothing session (checkpoint_of_session next) → LeavesAll session next old.disk new.disk
  -- A session without a sequence number left wrote nothing.
  pub not_worn : IsWorn (journal_of_session session) → journal_of_session next ≡ journal_of_session session

-- A pass came to its end, and what it leaves is to be kept.
pub record HasToKeep {T : Type 0} (trees : TreeMeaning T) (session : Session) (tree tree_after : T) : Type 0 where
  pub after : Checkpoint
  pub added : List Mark
  pub comes : ComesAfter session after added
  pub pass : Told (IsPass session (advance after added) (counting trees tree tree_after)) (trees.world tree) (trees.world tree_after)
  pub changes : ChangesNothing session after → ⊥

-- ---- what stands

-- The eras are those of the checkpoint that was found, if there is one.
abbrev pub AreErasIn : Found → Eras → Type 0
AreErasIn nothing eras = ⊤
AreErasIn damaged eras = ⊤
AreErasIn (found checkpoint) eras = AreErasOf checkpoint.eras eras

-- The image stands for this history by the eras that it has itself.
pub record IsStanding (history : History) (image : Image DiskFile) : Type 0 where
  pub there : Found
  pub found : IsFound image there
  pub eras : Eras
  pub are : AreErasIn there eras
  pub stands : Standing eras history there (image Output)
