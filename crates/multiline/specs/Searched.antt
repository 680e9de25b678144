-- What is known of lines that were searched.
use Rattle.std.specs.Prelude.{◌≡◌, ℕ, ◌<◌, ◌≤◌, false, List}
use Rattle.multiline.specs.Cutting.{Cutting}
use Rattle.multiline.specs.MultilineTokens.{stops_at, window}

-- The first n bytes of b, which lie among its first max + 1, have no LF whose line is marked or not decided.
pub record IsSearched (cutting : Cutting) (max : ℕ) (b : List ℕ) (n : ℕ) : Type 0 where
  pub within : n ≤ window max b
  pub passed : (place : ℕ) → place < n → stops_at cutting max b place ≡ false
