-- What reading a file on makes of its row and of the output.
use Rattle.std.specs.Prelude.{◌≡◌, ◌⊎◌, ℕ, ◌+◌, ◌<◌, ◌≤◌, ◌^◌, min, List, [], length}
use Rattle.outside.specs.TreeMeaning.{TreeMeaning}
use Rattle.outside.specs.World.{Told}
use Rattle.op_kinds.specs.StateTexts.{state_text}
use Rattle.pipeline.specs.AsRules.{rules_of}
use Rattle.pipeline.specs.Parts.{HaveKinds}
use Rattle.standing.specs.Limits.{most_taken}
use Rattle.standing.specs.Look.{fed, lines_of}
use Rattle.standing.specs.Poll.{Poll}
use Rattle.standing.specs.Rows.{Row}
use Rattle.standing.specs.Rules.{Rules}
use Rattle.file_pass.specs.DiskTerms.{Appends}
use Rattle.file_pass.specs.Flushed.{waiting, row_read, lines_read, is_flushed}
use Rattle.file_pass.specs.Full.{Crosses, Overflow, overflow, lines_text}
use Rattle.file_pass.specs.Moment.{Meanings, FeedingAt}
use Rattle.file_pass.specs.Reads.{Piece, Reads, piece_of}
use Rattle.file_pass.specs.TreeTerms.{HasEnding}
use Rattle.file_pass.specs.declared.ending.Ending.{Ending}
use Rattle.file_pass.specs.declared.ending.Ending.TheVariants.{Whole}
use Rattle.file_pass.specs.declared.ending.OpenFile.{OpenFile}
use Rattle.file_pass.specs.declared.feeding.Feeding.{Feeding}
use Rattle.file_pass.specs.declared.setup.Setup.{Setup}

-- what the settings say, as rules
abbrev pub rules_in : Setup → Rules
rules_in setup = rules_of setup.settings.now setup.pipeline.now

abbrev pub poll_of : Setup → Poll
poll_of setup = record { rules = rules_in setup; era = setup.era; first = setup.first; stamp = setup.observed }

-- What is known of a file while it is read on, as a row. What the row has besides stays as it is.
abbrev pub feeding_row : Feeding → Row
feeding_row feeding = record {
  id = feeding.id;
  path = feeding.path;
  front = [];
  start = 0;
  offset = feeding.offset;
  records = feeding.state.records;
  lines = feeding.state.lines;
  state = state_text feeding.state.states.items;
  born = 0;
  ends = [];
  seen = feeding.idle.seen;
  quiet = feeding.idle.quiet;
}

-- The numbers keep to each other, and there is a state for each operator.
pub record IsSane (setup : Setup) (feeding : Feeding) (end : ℕ) : Type 0 where
  pub states : HaveKinds setup.pipeline.now feeding.state.states.items
  pub records : feeding.state.records ≤ feeding.offset
  pub lines : feeding.state.lines ≤ end
  pub end_within : end ≤ setup.limit
  pub seen : feeding.idle.seen < 2 ^ 64
  pub quiet : feeding.idle.quiet < 2 ^ 32

-- the place up to which a file of this size is read
abbrev pub last_of : ℕ → ℕ → ℕ
last_of size offset = min size (offset + most_taken)

-- the place up to which this file is read
abbrev pub last_in : Feeding → ℕ
last_in feeding = last_of feeding.file.size feeding.offset

-- bytes that are read from its offset on
abbrev pub piece_in : Feeding → List ℕ → Ending → Piece
piece_in feeding given ending = piece_of feeding.file feeding.offset given ending

-- These bytes were read from this place on, up to the last one exactly where reading ended there.
pub record GoesTo (last from : ℕ) (given : List ℕ) (ending : Ending) : Type 0 where
  pub within : from + length given ≤ last
  pub whole : ending ≡ Whole → from + length given ≡ last
  pub partly : (ending ≡ Whole → ⊥) → from + length given < last

-- These bytes were read from the offset on, and their lines are behind the output.
pub record HasRead {T D : Type 0} (means : Meanings T D) (setup : Setup) (ending : Ending) (before after : FeedingAt T D) : Type 0 where
  pub given : List ℕ
  pub goes : GoesTo (last_in before.feeding) before.feeding.offset given ending
  pub row : feeding_row after.feeding ≡ fed (rules_in setup) given (feeding_row before.feeding)
  pub rest : after.feeding.carried.items ≡ waiting (rules_in setup) given
  pub stood : after.feeding.flushed ≡ before.feeding.flushed
  pub appends : Appends means.disks (lines_text (lines_of (poll_of setup) given (feeding_row before.feeding))) before.end after.end before.outside.disk after.outside.disk
  pub world : Told (Reads (piece_in before.feeding given ending)) (means.trees.world before.outside.tree) (means.trees.world after.outside.tree)
  pub cause : HasEnding ending (means.trees.faults before.outside.tree) (means.trees.faults after.outside.tree)

-- The same, and what waited behind them was flushed where the file has stood still for so many looks.
pub record ReadsOn {T D : Type 0} (means : Meanings T D) (setup : Setup) (ending : Ending) (before after : FeedingAt T D) : Type 0 where
  pub given : List ℕ
  pub goes : GoesTo (last_in before.feeding) before.feeding.offset given ending
  pub row : feeding_row after.feeding ≡ row_read (rules_in setup) before.feeding.file.size ending given (feeding_row before.feeding)
  pub flushed : after.feeding.flushed ≡ is_flushed (rules_in setup) before.feeding.file.size ending given (feeding_row before.feeding)
  -- each token has a byte or more
  pub few : after.feeding.state.records + before.feeding.offset ≤ before.feeding.state.records + after.feeding.offset
  pub appends : Appends means.disks (lines_text (lines_read (poll_of setup) before.feeding.file.size ending given (feeding_row before.feeding))) before.end after.end before.outside.disk after.outside.disk
  pub world : Told (Reads (piece_in before.feeding given ending)) (means.trees.world before.outside.tree) (means.trees.world after.outside.tree)
  pub cause : HasEnding ending (means.trees.faults before.outside.tree) (means.trees.faults after.outside.tree)

-- With a line of what was read the output would be too long.
pub record FillsPart {T D : Type 0} (trees : TreeMeaning T) (setup : Setup) (size : ℕ) (before : FeedingAt T D) (tree_after : T) : Type 0 where
  pub given : List ℕ
  pub within : before.feeding.offset + length given ≤ last_in before.feeding
  pub crosses : Crosses setup.limit before.end (lines_of (poll_of setup) given (feeding_row before.feeding)) size
  pub world : Told (Reads (piece_in before.feeding given Whole)) (trees.world before.outside.tree) (trees.world tree_after)
  pub stood : trees.faults tree_after ≡ trees.faults before.outside.tree

-- The bytes were read as far as one pass goes, and with a line of them, or of what waited and was flushed, the output would be too long.
pub record CrossesAll (poll : Poll) (over : Overflow) (file : OpenFile) (given : List ℕ) (row : Row) : Type 0 where
  pub whole : row.offset + length given ≡ last_of file.size row.offset
  pub crosses : Crosses over.limit over.end (lines_read poll file.size Whole given row) over.size

-- With a line of what was read, or of what waited and was flushed, the output would be too long.
abbrev pub CrossesRead : Poll → Overflow → OpenFile → List ℕ → Row → Type 0
CrossesRead poll over file given row = Crosses over.limit over.end (lines_of poll given row) over.size ⊎ CrossesAll poll over file given row

-- So it would be with what was read of this file.
pub record FillsUp {T D : Type 0} (trees : TreeMeaning T) (setup : Setup) (size : ℕ) (before : FeedingAt T D) (tree_after : T) : Type 0 where
  pub given : List ℕ
  pub within : before.feeding.offset + length given ≤ last_in before.feeding
  pub crosses : CrossesRead (poll_of setup) (overflow setup.limit before.end size) before.feeding.file given (feeding_row before.feeding)
  pub world : Told (Reads (piece_in before.feeding given Whole)) (trees.world before.outside.tree) (trees.world tree_after)
  pub stood : trees.faults tree_after ≡ trees.faults before.outside.tree

-- How far reading on has come: up to `from`, where those bytes are carried on that no token used yet.
pub record IsReading {T D : Type 0} (means : Meanings T D) (setup : Setup) (from : ℕ) (before now : FeedingAt T D) : Type 0 where
  pub given : List ℕ
  pub from_is : from ≡ before.feeding.offset + length given
  pub within : from ≤ last_in before.feeding
  pub row : feeding_row now.feeding ≡ fed (rules_in setup) given (feeding_row before.feeding)
  pub rest : now.feeding.carried.items ≡ waiting (rules_in setup) given
  pub flushed : now.feeding.flushed ≡ before.feeding.flushed
  pub appends : Appends means.disks (lines_text (lines_of (poll_of setup) given (feeding_row before.feeding))) before.end now.end before.outside.disk now.outside.disk
  pub world : Told (Reads (piece_in before.feeding given Whole)) (means.trees.world before.outside.tree) (means.trees.world now.outside.tree)
  pub cause : means.trees.faults now.outside.tree ≡ means.trees.faults before.outside.tree
