-- Which paths a pattern matches, and in which folders matches may lie.
use Rattle.std.specs.Prelude.{◌≡◌, ℕ, ◌<◌, List, [], ◌∷◌, length, take, if◌then◌else◌, IsTrue, ◌⊎◌}
use Rattle.std.specs.Str.{chars}
use Rattle.glob_match.specs.declared.pattern.Piece.{Piece}
use Rattle.glob_match.specs.declared.pattern.Component.{Component}
use Rattle.glob_match.specs.declared.pattern.Component.TheVariants.{Folders, Name}
use Rattle.glob_match.specs.Fits.{FitsPieces}
use Rattle.glob_match.specs.Path.{names, is_absolute, relative, is_path}
use Rattle.glob_match.specs.Pattern.{Pattern}

-- components and names: each component fits one name, and `**` any number of them
pub data FitsNames : List Component → List (List ℕ) → Type 0 where
  no_names : FitsNames [] []
  one_name : {pieces : List Piece} {components : List Component} {name : List ℕ} {others : List (List ℕ)} → FitsPieces pieces (chars name) → FitsNames components others → FitsNames (Name pieces ∷ components) (name ∷ others)
  no_folder : {components : List Component} {names : List (List ℕ)} → FitsNames components names → FitsNames (Folders ∷ components) names
  one_folder : {components : List Component} {name : List ℕ} {others : List (List ℕ)} → FitsNames (Folders ∷ components) others → FitsNames (Folders ∷ components) (name ∷ others)

-- the components fit a path's names, and both are absolute or neither is
pub record MatchesPath (pattern : Pattern) (path : List ℕ) : Type 0 where
  pub proper : IsTrue (is_path path)
  pub rooted : is_absolute path ≡ pattern.is_absolute
  pub fits : FitsNames pattern.components (names (relative path))

-- the first components of a pattern
abbrev pub first : ℕ → Pattern → Pattern
first count pattern = record pattern { components = take count pattern.components }

-- the folder that holds all that a pattern may match: the working folder, which is the empty text, or the root
abbrev pub root : Pattern → List ℕ
root pattern = if pattern.is_absolute then 47 ∷ [] else []

-- a match may lie in the folder: it matches the pattern's first components, fewer than all
abbrev pub ListsFolder : Pattern → List ℕ → Type 0
ListsFolder pattern folder = (folder ≡ root pattern) ⊎ ((count : ℕ) × (count < length pattern.components) × MatchesPath (first count pattern) folder)
