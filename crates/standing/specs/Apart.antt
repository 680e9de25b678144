-- Files that can be told from each other by their first bytes.
use Rattle.std.specs.Prelude.{◌≢◌, ℕ, ◌<◌, List, length, take}
use Rattle.outside.specs.World.{History, bytes}
use Rattle.standing.specs.Moments.{LookAt}
use Rattle.standing.specs.Prefixes.{IsPrefix}

-- The bytes seen of one file earlier don't begin those seen of another now; nor the reverse, unless none are seen now.
pub record AreApart (earlier now : List ℕ) : Type 0 where
  pub not_grown : IsPrefix earlier now → ⊥
  pub not_shrunk : 0 < length now → IsPrefix now earlier → ⊥

-- At each look, the first n bytes are apart from those of each other file at an earlier look at which it wasn't empty.
abbrev pub Apart : ℕ → History → Type 0
Apart n history =
    (file other : ℕ) (moment earlier : History) → LookAt history file moment → LookAt moment other earlier → other ≢ file → 0 < length (bytes earlier other)
    → AreApart (take n (bytes earlier other)) (take n (bytes moment file))
