-- The words of a text, one behind another with blanks between them.
use Rattle.std.specs.Prelude.{◌≡◌, ℕ, ◌+◌, true, false, ◌==◌, if◌then◌else◌, List, [], ◌∷◌, length, take, drop, Option, Some, None, ◌⊎◌}
use Rattle.std.specs.Option.{option_map_or}
use Rattle.std.specs.List.{take_while}
use Rattle.field_paths.specs.Place.{Place}
use Rattle.field_paths.specs.PathText.{IsPathText}
use Rattle.expr_lang.specs.declared.token.Token.{Token}
use Rattle.expr_lang.specs.declared.token.Token.TheVariants as token
use Rattle.expr_lang.specs.declared.lexer.Spot.{Spot}
use Rattle.expr_lang.specs.declared.lexer.Spot.TheVariants as spot
use Rattle.expr_lang.specs.Words.{is_blank, is_word_byte, is_quote, begins_path, plain_token}

-- the spot behind one more byte of a path, none where the path has ended; `-` stands between quotes alone
unfoldable pub spot_after : Spot → ℕ → Option Spot
spot_after spot.Name byte =
    (if is_word_byte byte then Some spot.Name else
    (if byte == 46 then Some spot.Name else
    (if byte == 91 then Some spot.Bracket else None)))
spot_after spot.Closed byte =
    (if byte == 46 then Some spot.Name else
    (if byte == 91 then Some spot.Bracket else None))
spot_after spot.Bracket byte = (if is_quote byte then Some (spot.Quoted byte) else None)
spot_after (spot.Quoted quote) byte =
    (if byte == quote then Some spot.Closing else
    (if byte == 92 then Some (spot.Escaped quote) else Some (spot.Quoted quote)))
spot_after (spot.Escaped quote) byte = Some (spot.Quoted quote)
spot_after spot.Closing byte = (if byte == 93 then Some spot.Closed else None)

-- how many bytes at the front may be those of a path
abbrev pub path_length : Spot → List ℕ → ℕ
path_length at [] = 0
path_length at (byte ∷ bytes) = option_map_or (λ next. 1 + path_length next bytes) (spot_after at byte) 0

-- the bytes begin with the word, in so many bytes
abbrev pub IsToken : List ℕ → Token → ℕ → Type 0
IsToken bytes word n =
    ((begins_path bytes ≡ false) × (plain_token bytes ≡ Some (word, n)))
    ⊎ ((begins_path bytes ≡ true) × (n ≡ path_length spot.Name bytes) × ((place : Place) × (word ≡ token.Path place) × IsPathText (take n bytes) place))

-- a word, and its place in the text
abbrev pub Placed : Type 0
Placed = Token × ℕ

-- the first place from `at` on where no blank stands
abbrev pub past_blanks : List ℕ → ℕ → ℕ
past_blanks text at = at + length (take_while is_blank (drop at text))

-- from `at` on the text has these words, with blanks around them
abbrev pub IsRow : List ℕ → ℕ → List Placed → Type 0
IsRow text at [] = past_blanks text at ≡ length text
IsRow text at (placed ∷ row) =
    (placed.1 ≡ past_blanks text at) × ((n : ℕ) × IsToken (drop placed.1 text) placed.0 n × IsRow text (placed.1 + n) row)
