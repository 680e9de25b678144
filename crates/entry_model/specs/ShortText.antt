-- What contracts see of a text that stands in its own place.
use Rattle.std.specs.Prelude.{ℕ, List}

-- its bytes, and those of the room behind them, of which nothing is said
pub record ShortBytes : Type 0 where
  pub bytes : List ℕ
  pub spare : List ℕ
