-- Which rows are found by the files that are looked at, and what is counted where a call fails.
use Rattle.std.specs.Prelude.{◌≡◌, ◌⊎◌, ℕ, ◌-◌, ◌≤◌, List, length, take, false, Option, Some, slice_get, Contains}
use Rattle.file_tracker.specs.Places.{place_of}
use Rattle.folder_audit.specs.Findings.{is_absent}
use Rattle.folder_audit.specs.KeptFiles.{IsLast, IsToRead}
use Rattle.folder_audit.specs.Limits.{largest_read}
use Rattle.folder_audit.specs.Absences.{IsShown}
use Rattle.folder_audit.specs.Open.{IsOpenAt}
use Rattle.folder_audit.specs.declared.findings.Finding.{Finding}
use Rattle.folder_audit.specs.declared.judging.OpenFile.{OpenFile}
use Rattle.folder_audit.specs.declared.kept.Kept.{Kept}
use Rattle.outside.specs.Count.{raised}
use Rattle.outside.specs.TreeMeaning.{TreeMeaning}
use Rattle.outside.specs.World.{History, World, Told, bytes}
use Rattle.pipeline.specs.Parts.{settings_of}
use Rattle.pipeline.specs.declared.Pipeline.{Pipeline}
use Rattle.standing.specs.Moments.{IsLater, NamesThroughout}
use Rattle.standing.specs.Pass.{IsReachable}
use Rattle.standing.specs.Rows.{Row, IsRowAt}

-- the tree's count rose by so many at least
abbrev pub RoseBy : {T : Type 0} → TreeMeaning T → T → T → ℕ → Type 0
RoseBy meaning old new failures = raised (meaning.faults old) failures ≤ meaning.faults new

-- Over a told tree this holds, unless the count rose.
abbrev pub UnlessRose : {T : Type 0} → TreeMeaning T → (World → World → Type 0) → T → T → Type 0
UnlessRose meaning holds old new = Told (λ x y. RoseBy meaning old new 1 ⊎ holds x y) (meaning.world old) (meaning.world new)

-- A file with these bytes is known as that of the row at this place, and has no fewer than the offset, and not too many up to there.
pub record IsReadable (kept : Kept) (place : ℕ) (whole : List ℕ) : Type 0 where
  pub last : Pipeline
  pub is_last : IsLast kept.pipes.items last
  pub known : place_of (take (settings_of last).fingerprint_size whole) kept.rows ≡ Some place
  pub row : Row
  pub there : IsRowAt kept.rows place row
  pub long : row.offset ≤ length whole
  pub small : row.offset - row.start ≤ largest_read

-- something was found of the row at this place
abbrev pub IsSome : Finding → Type 0
IsSome finding = is_absent finding ≡ false

abbrev pub IsOf : Option (ℕ × Finding) → ℕ → Type 0
IsOf judged place = (finding : Finding) × (judged ≡ Some (place, finding)) × IsSome finding

abbrev pub IsIn : List Finding → ℕ → Type 0
IsIn found place = (finding : Finding) × (slice_get found place ≡ Some finding) × IsSome finding

-- the open file is known by its front
abbrev pub KnowsOpen : Kept → OpenFile → Option ℕ → World → World → Type 0
KnowsOpen kept file known old new =
    (seen : ℕ) (moment : History) (place : ℕ) → IsOpenAt file seen moment old → IsReadable kept place (bytes moment seen) → known ≡ Some place

-- and is judged as the file of the row at this place
abbrev pub JudgesOpen : Kept → OpenFile → ℕ → Finding → World → World → Type 0
JudgesOpen kept file place finding old new =
    (seen : ℕ) (moment : History) → IsOpenAt file seen moment old → IsReadable kept place (bytes moment seen) → IsSome finding

abbrev pub FindsOpen : Kept → OpenFile → Option (ℕ × Finding) → World → World → Type 0
FindsOpen kept file judged old new =
    (seen : ℕ) (moment : History) (place : ℕ) → IsOpenAt file seen moment old → IsReadable kept place (bytes moment seen) → IsOf judged place

-- Something is found of the row that the file is known by at some moment.
pub record FindsRow (kept : Kept) (IsNoted : ℕ → Type 0) (file : ℕ) (old new : History) : Type 0 where
  pub moment : History
  pub after : IsLater old moment
  pub before : IsLater moment new
  pub finds : (place : ℕ) → IsReadable kept place (bytes moment file) → IsNoted place

-- It is so of the file that the path names all the time.
abbrev pub FindsPath : Kept → (ℕ → Type 0) → List ℕ → World → World → Type 0
FindsPath kept IsNoted path old new = (file : ℕ) → NamesThroughout old.history new.history path file → FindsRow kept IsNoted file old.history new.history

-- It is so of each of the paths, but of as many as the count rose by.
pub record FindsAll (kept : Kept) (found : List Finding) (IsAsked : List ℕ → Type 0) (IsCounted : ℕ → Type 0) (old new : World) : Type 0 where
  pub failed : List (List ℕ)
  pub counted : IsCounted (length failed)
  pub each : (path : List ℕ) (file : ℕ) → IsAsked path → NamesThroughout old.history new.history path file
      → Contains failed path ⊎ FindsRow kept (IsIn found) file old.history new.history

-- the paths that were walked
abbrev pub FindsWalked : {T : Type 0} → TreeMeaning T → Kept → List Finding → List (List ℕ) → T → T → Type 0
FindsWalked meaning kept found paths old new =
    Told (FindsAll kept found (Contains paths) (RoseBy meaning old new)) (meaning.world old) (meaning.world new)

-- a walk is to find the path
pub record IsDue (kept : Kept) (old new : World) (path : List ℕ) : Type 0 where
  pub to_read : IsToRead kept.pipes.items path
  pub reachable : IsReachable path
  pub shown : IsShown old.history new.history path

abbrev pub FindsDue : {T : Type 0} → TreeMeaning T → Kept → List Finding → T → T → Type 0
FindsDue meaning kept found old new =
    Told (λ x y. FindsAll kept found (IsDue kept x y) (RoseBy meaning old new) x y) (meaning.world old) (meaning.world new)
