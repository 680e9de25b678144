-- What a path names while a walk lasts, from one moment of the history to another.
use Rattle.std.specs.Prelude.{◌≡◌, ℕ, List, Some}
use Rattle.outside.specs.World.{History, names}
use Rattle.outside.specs.Listing.{kind_at}
use Rattle.outside.specs.declared.tree.Kind.{Kind}
use Rattle.standing.specs.Moments.{IsLater}

abbrev pub IsOfKind : Kind → History → List ℕ → Type 0
IsOfKind kind moment path = kind_at (names moment) path ≡ Some kind

-- at one moment at least
pub record WasOnce (kind : Kind) (old new : History) (path : List ℕ) : Type 0 where
  pub moment : History
  pub after : IsLater old moment
  pub before : IsLater moment new
  pub is : IsOfKind kind moment path

-- at each moment
abbrev pub WasAlways : Kind → History → History → List ℕ → Type 0
WasAlways kind old new path = (moment : History) → IsLater old moment → IsLater moment new → IsOfKind kind moment path
