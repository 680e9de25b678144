-- The output would be too long: with which looks it would.
use Rattle.std.specs.Prelude.{◌≡◌, ℕ, ◌+◌, ◌≤◌, List, [], ◌∷◌, ◌++◌, length, map, reverse, take, false, Some, slice_get}
use Rattle.file_tracker.specs.declared.row.Row.{Row}
use Rattle.outside.specs.Moment.{Moves}
use Rattle.outside.specs.Seen.{looked, missed, left_unlisted}
use Rattle.outside.specs.World.{World, History}
use Rattle.standing.specs.Poll.{Poll}
use Rattle.standing.specs.Look.{Look, ComesAt, after_look, size}
use Rattle.standing.specs.Looks.{Come, ReadOn, progress_by}
use Rattle.standing.specs.Moments.{IsLater}
use Rattle.file_pass.specs.Fed.{last_of, CrossesRead}
use Rattle.file_pass.specs.Full.{Crosses, Overflow}
use Rattle.file_pass.specs.LookTaken.{look_at, IsOpenAt, IsSeenAt}
use Rattle.file_pass.specs.Reads.{Reads, piece_of}
use Rattle.file_pass.specs.Seen.{progress_of}
use Rattle.file_pass.specs.Turns.{Turn, looks_at, path_of, looks_of, misses_of}
use Rattle.file_pass.specs.declared.ending.Ending.TheVariants.{Whole}
use Rattle.file_pass.specs.declared.ending.PathFile.{PathFile}
use Rattle.file_pass.specs.declared.ending.RowFile.{RowFile}
use Rattle.file_pass.specs.declared.ending.SeenFile.{SeenFile}

-- with a line of the bytes that were read for the row at this place, or of what waited and was flushed
pub record RowFills (poll : Poll) (over : Overflow) (at : RowFile) (rows : List Row) (old new : World) : Type 0 where
  pub row : Row
  pub there : slice_get rows at.place ≡ Some row
  pub begins : row.offset ≤ at.file.size
  pub given : List ℕ
  pub within : row.offset + length given ≤ last_of at.file.size row.offset
  pub crosses : CrossesRead poll over at.file given row
  pub reads : Reads (piece_of at.file row.offset given Whole) old new

-- with a line of those that the look adds
abbrev pub LookFills : Poll → Overflow → Look → List Row → Type 0
LookFills poll over here rows = Crosses over.limit over.end (after_look poll here (progress_of rows [])).added over.size

-- with a line of those that a look adds which sees this front, and could read the file to its end
pub record SeenFills (poll : Poll) (over : Overflow) (at : SeenFile) (rows : List Row) (old new : World) : Type 0 where
  pub handles : new.handles ≡ old.handles
  pub moves : Moves old.history new.history
  pub looks : (seen : ℕ) (moment : History) → IsSeenAt poll at.file at.front.now seen moment old → LookFills poll over (look_at at.path.now seen moment at.file.size false) rows

-- with a line of those that a look adds which could read the file to its end
pub record OpenFills (poll : Poll) (over : Overflow) (at : PathFile) (rows : List Row) (old new : World) : Type 0 where
  pub handles : new.handles ≡ old.handles
  pub moves : Moves old.history new.history
  pub looks : (seen : ℕ) (moment : History) → IsOpenAt at.file seen moment old → LookFills poll over (look_at at.path.now seen moment at.file.size false) rows

pub record PathFills (poll : Poll) (over : Overflow) (path : List ℕ) (rows : List Row) (old new : World) : Type 0 where
  pub here : Look
  pub path_is : here.path ≡ path
  pub whole : here.end ≡ size here
  pub later : IsLater old.history here.moment
  pub comes : ComesAt poll.rules here new.history
  pub all_looks : looked new.history ≡ here.file ∷ looked old.history
  pub all_misses : missed new.history ≡ missed old.history
  pub no_unlisted : left_unlisted new.history ≡ left_unlisted old.history
  pub fills : LookFills poll over here rows
  pub handles : new.handles ≡ old.handles

-- The first of the paths had their turns, and the newest of the looks, which could read its file to the end, leads to lines
-- with which the output is too long.
pub record AllFill (poll : Poll) (over : Overflow) (paths : List (List ℕ)) (rows : List Row) (old new : World) : Type 0 where
  pub here : Look
  pub earlier : List Turn
  pub each : map path_of (looks_at here ∷ earlier) ≡ reverse (take (length earlier + 1) paths)
  pub whole : here.end ≡ size here
  pub come : Come poll.rules (here ∷ looks_of earlier) old.history new.history
  pub all_looks : looked new.history ≡ map (λ (look : Look). look.file) (here ∷ looks_of earlier) ++ looked old.history
  pub all_misses : missed new.history ≡ misses_of earlier ++ missed old.history
  pub no_unlisted : left_unlisted new.history ≡ left_unlisted old.history
  pub read_on : ReadOn poll (here ∷ looks_of earlier) (progress_of rows [])
  pub crosses : Crosses over.limit over.end (progress_by poll (here ∷ looks_of earlier) (progress_of rows [])).added over.size
  pub handles : new.handles ≡ old.handles
