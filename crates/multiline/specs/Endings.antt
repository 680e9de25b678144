-- The first token in the words of lines and their marks.
use Rattle.std.specs.Prelude.{◌≡◌, ℕ, ◌<◌, ◌⊎◌, true, false, List, Some, length, take, slice_index}
use Rattle.line_splitter.specs.Cuts.{Cut, cut}
use Rattle.multiline.specs.Cutting.{Cutting}
use Rattle.multiline.specs.MultilineTokens.{judged, window, cut_before}

-- an LF among the first max + 1 bytes of b
pub record IsLineEnd (max : ℕ) (b : List ℕ) (place : ℕ) : Type 0 where
  pub within : place < window max b
  pub line_feed : slice_index b place ≡ 10

-- the line that is judged at an LF is marked, and at each LF before it the line is decided and not marked
pub record EndsAt (cutting : Cutting) (max : ℕ) (b : List ℕ) (place : ℕ) : Type 0 where
  pub line_end : IsLineEnd max b place
  pub marked : judged cutting max b place ≡ Some true
  pub unmarked_before : (k : ℕ) → k < place → IsLineEnd max b k → judged cutting max b k ≡ Some false

-- at each LF the line is decided and not marked, and there are more than max bytes
pub record IsTooLong (cutting : Cutting) (max : ℕ) (b : List ℕ) : Type 0 where
  pub unmarked : (k : ℕ) → IsLineEnd max b k → judged cutting max b k ≡ Some false
  pub long : max < length b

-- a cut between two lines, or after max bytes
abbrev pub IsCutThere : Cutting → ℕ → List ℕ → Cut → Type 0
IsCutThere cutting max b c = ((place : ℕ) × EndsAt cutting max b place × (c ≡ cut_before b place)) ⊎ (IsTooLong cutting max b × (c ≡ cut (take max b) max))
