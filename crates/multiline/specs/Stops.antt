-- The first LF that may end a token.
use Rattle.std.specs.Prelude.{◌≡◌, ℕ, ◌<◌, true, List, Some, None, slice_index}
use Rattle.multiline.specs.Cutting.{Cutting}
use Rattle.multiline.specs.MultilineTokens.{judged, window}
use Rattle.multiline.specs.Searched.{IsSearched}
use Rattle.multiline.specs.declared.stops.Stop.{Stop}
use Rattle.multiline.specs.declared.stops.Stop.TheVariants.{Marked, Undecided, Nowhere}

-- an LF at the place, with lines before it that are decided and not marked
pub record IsFirstStop (cutting : Cutting) (max : ℕ) (b : List ℕ) (place : ℕ) : Type 0 where
  pub searched : IsSearched cutting max b place
  pub within : place < window max b
  pub line_feed : slice_index b place ≡ 10

abbrev pub IsStop : Cutting → ℕ → List ℕ → Stop → Type 0
IsStop cutting max b (Marked place) = IsFirstStop cutting max b place × (judged cutting max b place ≡ Some true)
IsStop cutting max b (Undecided place) = IsFirstStop cutting max b place × (judged cutting max b place ≡ None)
IsStop cutting max b Nowhere = IsSearched cutting max b (window max b)
