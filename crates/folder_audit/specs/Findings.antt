-- What was found of each row.
use Rattle.std.specs.Prelude.{◌≡◌, ℕ, Bool, true, false, List, length, Option, Some, slice_get, count_by, sum_by}
use Rattle.folder_audit.specs.Judged.{IsFound, TellsLines}
use Rattle.folder_audit.specs.KeptFiles.{IsLast, texts_of}
use Rattle.folder_audit.specs.declared.findings.Finding.{Finding}
use Rattle.folder_audit.specs.declared.findings.Finding.TheVariants.{Absent, Same, Differs}
use Rattle.folder_audit.specs.declared.kept.Kept.{Kept}
use Rattle.outside.specs.World.{World, Told}
use Rattle.pipeline.specs.declared.Pipeline.{Pipeline}
use Rattle.standing.specs.Rows.{Row, IsRowAt}

abbrev pub is_absent : Finding → Bool
is_absent Absent = true
is_absent (Same _) = false
is_absent (Differs _) = false

abbrev pub is_other : Finding → Bool
is_other Absent = false
is_other (Same _) = false
is_other (Differs _) = true

abbrev pub lines_in : Finding → ℕ
lines_in Absent = 0
lines_in (Same lines) = lines
lines_in (Differs _) = 0

abbrev pub absent_in : List Finding → ℕ
absent_in found = count_by is_absent found

abbrev pub all_lines_in : List Finding → ℕ
all_lines_in found = sum_by lines_in found

-- each is of its row
pub record AreFindings (rows : List Row) (found : List Finding) : Type 0 where
  pub many : length found ≡ length rows
  pub lines : (place : ℕ) (row : Row) (finding : Finding) → IsRowAt rows place row → slice_get found place ≡ Some finding → TellsLines row finding

-- What is found of the row at this place holds, by what is kept.
abbrev pub IsFoundAt : Kept → ℕ → Finding → World → World → Type 0
IsFoundAt kept place finding old new =
    (row : Row) (text : List ℕ) (last : Pipeline) → IsRowAt kept.rows place row → slice_get (texts_of kept) place ≡ Some text → IsLast kept.pipes.items last
    → IsFound kept.pipes.items last text row finding old new

abbrev pub AreFoundAt : Kept → List Finding → World → World → Type 0
AreFoundAt kept found old new = (place : ℕ) (finding : Finding) → slice_get found place ≡ Some finding → IsFoundAt kept place finding old new

pub record HasFound (kept : Kept) (found : List Finding) (old new : Option World) : Type 0 where
  pub are : AreFindings kept.rows found
  pub hold : Told (AreFoundAt kept found) old new

-- one finding, at the place of a row
pub record IsOneFound (kept : Kept) (place : ℕ) (finding : Finding) (old new : Option World) : Type 0 where
  pub row : Row
  pub there : IsRowAt kept.rows place row
  pub lines : TellsLines row finding
  pub holds : Told (IsFoundAt kept place finding) old new

-- each finding holds by the output itself
abbrev pub AreFound : List Pipeline → Pipeline → List ℕ → List Row → List Finding → World → World → Type 0
AreFound pipes last output rows found old new =
    (place : ℕ) (row : Row) (finding : Finding) → IsRowAt rows place row → slice_get found place ≡ Some finding → IsFound pipes last output row finding old new
