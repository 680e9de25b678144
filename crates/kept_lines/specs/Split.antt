-- The lines of several files.
use Rattle.std.specs.Prelude.{◌≡◌, ℕ, ◌+◌, ◌-◌, ◌<◌, ◌^◌, ◌==◌, List, [], ◌++◌, codes, Bool, false, Option, None, Some, length, slice_get, flat_map, if◌then◌else◌}
use Rattle.kept_lines.specs.Lines.{whole_lines}
use Rattle.kept_lines.specs.OwnLines.{AreOf, IsOf}

-- how a line goes on before its file's id
abbrev pub before_id : List ℕ
before_id = codes "\"agent.file\",\"value\":{\"intValue\":\""

-- the id of the file whose line this is, where it is one of 32 bits
abbrev pub IsWhose : List ℕ → Option ℕ → Type 0
IsWhose line None = (id : ℕ) → id < 2 ^ 32 → IsOf id line → ⊥
IsWhose line (Some id) = IsOf id line × ((other : ℕ) → other < 2 ^ 32 → IsOf other line → other ≡ id)

abbrev pub is_it : ℕ → Option ℕ → Bool
is_it id None = false
is_it id (Some other) = id == other

-- the line was put behind the text of this file, and the others stay; the first text is that of the file 1
pub record AddsLine (whose : Option ℕ) (line : List ℕ) (before after : List (List ℕ)) : Type 0 where
  pub many : length after ≡ length before
  pub each : (place : ℕ) (text : List ℕ) → slice_get before place ≡ Some text → slice_get after place ≡ Some (if is_it (place + 1) whose then text ++ line else text)

-- so many texts without a byte
pub record AreEmpty (count : ℕ) (texts : List (List ℕ)) : Type 0 where
  pub many : length texts ≡ count
  pub each : (place : ℕ) (text : List ℕ) → slice_get texts place ≡ Some text → text ≡ []

-- these are the lines of the file among those of the output, one behind the other
pub record IsText (output : List ℕ) (id : ℕ) (text : List ℕ) : Type 0 where
  pub own : List (List ℕ)
  pub are : AreOf id (whole_lines output) own
  pub is : text ≡ flat_map (λ line. line) own

pub record AreTexts (output : List ℕ) (count : ℕ) (texts : List (List ℕ)) : Type 0 where
  pub many : length texts ≡ count
  pub each : (place : ℕ) (text : List ℕ) → place < 2 ^ 32 - 1 → slice_get texts place ≡ Some text → IsText output (place + 1) text
