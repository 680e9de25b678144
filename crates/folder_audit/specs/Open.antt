-- An open file.
use Rattle.std.specs.Prelude.{◌≡◌, ◌<◌, ℕ, List, length, take, Option, Some, slice_get}
use Rattle.folder_audit.specs.Judged.{IsReadAs, TellsLines}
use Rattle.folder_audit.specs.KeptFiles.{IsLast, texts_of}
use Rattle.folder_audit.specs.declared.findings.Finding.{Finding}
use Rattle.folder_audit.specs.declared.judging.OpenFile.{OpenFile}
use Rattle.folder_audit.specs.declared.kept.Kept.{Kept}
use Rattle.outside.specs.Count.{NeverFalls}
use Rattle.outside.specs.Reading.{file_of}
use Rattle.outside.specs.TreeMeaning.{TreeMeaning}
use Rattle.outside.specs.World.{History, World, Told, bytes}
use Rattle.pipeline.specs.Parts.{settings_of}
use Rattle.pipeline.specs.declared.Pipeline.{Pipeline}
use Rattle.standing.specs.Moments.{IsLater}
use Rattle.standing.specs.Prefixes.{IsPrefix}
use Rattle.standing.specs.Rows.{Row, IsRowAt}
use Rattle.tree_walk.specs.Calls.{KeepsHandles}

-- what the calls of an audit leave of a tree
pub record GoesOn {T : Type 0} (meaning : TreeMeaning T) (old new : T) : Type 0 where
  pub world : Told KeepsHandles (meaning.world old) (meaning.world new)
  pub faults : NeverFalls (meaning.faults old) (meaning.faults new)

-- the handle stands for this file, which was as long as told at this moment
pub record IsOpenAt (file : OpenFile) (seen : ℕ) (moment : History) (world : World) : Type 0 where
  pub is : file_of world.handles file.handle.0 ≡ Some seen
  pub size_then : file.size ≡ length (bytes moment seen)
  pub later : IsLater moment world.history

-- the open file begins with the front of the row at this place
abbrev pub BeginsAs : Kept → OpenFile → ℕ → World → World → Type 0
BeginsAs kept file place old new =
    (seen : ℕ) (moment : History) (row : Row) (last : Pipeline) → IsOpenAt file seen moment old → IsRowAt kept.rows place row → IsLast kept.pipes.items last
    → IsPrefix row.front (take (settings_of last).fingerprint_size (bytes moment seen))

pub record IsPlaced (kept : Kept) (file : OpenFile) (place : ℕ) (old new : Option World) : Type 0 where
  pub within : place < length kept.rows
  pub begins : Told (BeginsAs kept file place) old new

-- what is found by the bytes of the open file
abbrev pub IsReadAt : Kept → OpenFile → ℕ → Finding → World → World → Type 0
IsReadAt kept file place finding old new =
    (seen : ℕ) (moment : History) (row : Row) (text : List ℕ) → IsOpenAt file seen moment old → IsRowAt kept.rows place row → slice_get (texts_of kept) place ≡ Some text
    → IsReadAs kept.pipes.items text row finding (bytes moment seen)

pub record IsRead (kept : Kept) (file : OpenFile) (place : ℕ) (finding : Finding) (old new : Option World) : Type 0 where
  pub lines : (row : Row) → IsRowAt kept.rows place row → TellsLines row finding
  pub holds : Told (IsReadAt kept file place finding) old new

-- an open file is that of this row, of which this is found
pub record IsOpenFound (kept : Kept) (file : OpenFile) (place : ℕ) (finding : Finding) (old new : Option World) : Type 0 where
  pub row : Row
  pub there : IsRowAt kept.rows place row
  pub begins : Told (BeginsAs kept file place) old new
  pub read : IsRead kept file place finding old new
