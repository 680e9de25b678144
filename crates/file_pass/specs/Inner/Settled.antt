-- The row of a file of which the front was seen.
use Rattle.std.specs.Prelude.{◌≡◌, ◌⊎◌, ℕ, ◌+◌, ◌<◌, ◌&&◌, if◌then◌else◌, List, [], ◌∷◌, ◌++◌, length, Option, None, Some, slice_get, slice_set}
use Rattle.file_tracker.specs.Places.{place_of, with_front}
use Rattle.file_tracker.specs.declared.row.Row.{Row}
use Rattle.file_tracker.specs.Limits.{row_limit}
use Rattle.file_pass.specs.Fed.{rules_in}
use Rattle.file_pass.specs.declared.ending.SeenFile.{SeenFile}
use Rattle.file_pass.specs.declared.setup.Setup.{Setup}

-- a file's first row: it begins where it is, or, in a first pass that asks for it, at the file's end
abbrev pub admitted : Setup → ℕ → List ℕ → List ℕ → ℕ → Row
admitted setup size path front id =
    let start = if setup.first && (rules_in setup).from_end then size else 0 in
    record { id = id; path = path; front = front; start = start; offset = start; records = 0; lines = 0; state = (rules_in setup).fresh; born = setup.era; ends = []; seen = 0; quiet = 0 }

-- the first row whose front begins this one has it now
pub record IsKnown (front : List ℕ) (before : List Row) (place : ℕ) (after : List Row) : Type 0 where
  pub row : Row
  pub at : slice_get before place ≡ Some row
  pub first_one : place_of front before ≡ Some place
  pub grown : after ≡ slice_set before place (with_front front row)

-- no row's front begins this one, and a row was added
pub record IsAdmitted (setup : Setup) (at : SeenFile) (before : List Row) (place : ℕ) (after : List Row) : Type 0 where
  pub none : place_of at.front.now before ≡ None
  pub room : length before < row_limit
  pub last : place ≡ length before
  pub added : after ≡ before ++ admitted setup at.file.size at.path.now at.front.now (length before + 1) ∷ []

-- there was no room for a row
pub record IsLeftOut (front : List ℕ) (before after : List Row) : Type 0 where
  pub none : place_of front before ≡ None
  pub all : length before ≡ row_limit
  pub same : after ≡ before

abbrev pub Settles : Setup → SeenFile → List Row → Option ℕ → List Row → Type 0
Settles setup at before None after = IsLeftOut at.front.now before after
Settles setup at before (Some place) after = IsKnown at.front.now before place after ⊎ IsAdmitted setup at before place after
