-- What a glob means: its components.
use Rattle.std.specs.Prelude.{ℕ, List, [], ◌∷◌, Bool, true, false, not, if◌then◌else◌, ◌==◌, ◌&&◌}
use Rattle.glob_match.specs.declared.pattern.Unit.TheVariants.{Plain, Star}
use Rattle.glob_match.specs.declared.pattern.Piece.{Piece}
use Rattle.glob_match.specs.declared.pattern.Piece.TheVariants.{Single}
use Rattle.glob_match.specs.declared.pattern.Component.{Component}
use Rattle.glob_match.specs.declared.pattern.Component.TheVariants.{Folders, Name}

pub record Pattern : Type 0 where
  pub is_absolute : Bool
  pub components : List Component

abbrev pub is_plain : ℕ → Piece → Bool
is_plain character (Single (Plain other)) = other == character
is_plain character _ = false

abbrev pub is_star : Piece → Bool
is_star (Single Star) = true
is_star _ = false

abbrev pub is_dot : Piece → Bool
is_dot piece = is_plain 46 piece

-- neither nothing nor `.` nor `..`
abbrev pub is_component : List Piece → Bool
is_component [] = false
is_component (piece ∷ []) = not (is_dot piece)
is_component (piece ∷ other ∷ []) = not (is_dot piece && is_dot other)
is_component (piece ∷ other ∷ third ∷ others) = true

abbrev pub are_two_stars : List Piece → Bool
are_two_stars [] = false
are_two_stars (piece ∷ []) = false
are_two_stars (piece ∷ other ∷ []) = is_star piece && is_star other
are_two_stars (piece ∷ other ∷ third ∷ others) = false

-- a component that is `**` stands for any number of components
abbrev pub component : List Piece → Component
component pieces = if are_two_stars pieces then Folders else Name pieces

-- the last component `**` is read as `**/*`
abbrev pub last_components : List Piece → List Component
last_components pieces = if are_two_stars pieces then Folders ∷ Name (Single Star ∷ []) ∷ [] else Name pieces ∷ []

abbrev pub components : List Piece → List (List Piece) → List Component
components pieces [] = last_components pieces
components pieces (next ∷ others) = component pieces ∷ components next others

abbrev pub is_name : Component → Bool
is_name Folders = false
is_name (Name _) = true

-- Whatever a pattern matches, its last component is a name of it.
abbrev pub ends_in_name : List Component → Bool
ends_in_name [] = false
ends_in_name (component ∷ []) = is_name component
ends_in_name (component ∷ next ∷ others) = ends_in_name (next ∷ others)
