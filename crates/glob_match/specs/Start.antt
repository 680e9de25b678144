-- The folder in which a walk for the matches of a pattern begins.
use Rattle.std.specs.Prelude.{ℕ, ◌-◌, List, [], ◌∷◌, ◌++◌, length, take, Bool, true, false, Option, None, Some, option_map, option_and_then, encode_utf8_all}
use Rattle.std.specs.List.{join_with_byte}
use Rattle.std.specs.Option.{option_map_or}
use Rattle.glob_match.specs.declared.pattern.Unit.TheVariants.{Plain}
use Rattle.glob_match.specs.declared.pattern.Piece.{Piece}
use Rattle.glob_match.specs.declared.pattern.Piece.TheVariants.{Single}
use Rattle.glob_match.specs.declared.pattern.Component.{Component}
use Rattle.glob_match.specs.declared.pattern.Component.TheVariants.{Folders, Name}
use Rattle.glob_match.specs.GlobMatch.{root}
use Rattle.glob_match.specs.Pattern.{Pattern}

-- the character that the piece is, where it has nothing special
abbrev pub plain_character : Piece → Option ℕ
plain_character (Single (Plain c)) = Some c
plain_character _ = None

abbrev pub plain_characters : List Piece → Option (List ℕ)
plain_characters [] = Some []
plain_characters (piece ∷ pieces) = option_and_then (λ c. option_map (λ more. c ∷ more) (plain_characters pieces)) (plain_character piece)

-- the name that the component is, where it has no special character
abbrev pub plain_name : Component → Option (List ℕ)
plain_name Folders = None
plain_name (Name pieces) = option_map encode_utf8_all (plain_characters pieces)

-- the names of the leading components without special characters
abbrev pub plain_names : List Component → List (List ℕ)
plain_names [] = []
plain_names (component ∷ others) = option_map_or (λ name. name ∷ plain_names others) (plain_name component) []

-- the leading components, not the last
abbrev pub start : Pattern → List ℕ
start pattern = root pattern ++ join_with_byte 47 (plain_names (take (length pattern.components - 1) pattern.components))

-- the names joined by slashes, with a slash before the first too where it isn't the first of all
abbrev pub behind : Bool → List (List ℕ) → List ℕ
behind true names = join_with_byte 47 names
behind false [] = []
behind false (name ∷ names) = 47 ∷ join_with_byte 47 (name ∷ names)
