-- What the pieces of a JSON string spell: bytes of UTF-8 that stand for themselves or behind a backslash, and UTF-16
-- units behind `\u` (RFC 8259, section 7).
use Rattle.std.specs.Prelude.{ℕ, List, [], ◌∷◌, ◌++◌, ◌&&◌, ◌<◌, ⊤, if◌then◌else◌}
use Rattle.std.specs.Char.{encode_utf8}
use Rattle.std.specs.Char.Utf16.{is_high_surrogate, is_low_surrogate, surrogate_pair_char, lone_unit_char}
use Rattle.std.specs.Option.{unwrap_or}
use Rattle.json_text.specs.declared.content.Piece.{Piece}
use Rattle.json_text.specs.declared.content.Piece.TheVariants as piece

-- the character of a unit that is in no pair; U+FFFD for half a pair
unfoldable pub lone_unit : ℕ → List ℕ
lone_unit unit = encode_utf8 (unwrap_or (lone_unit_char unit) 0xFFFD)

-- the character of two units that are a pair
unfoldable pub pair_of_units : ℕ → ℕ → List ℕ
pair_of_units high low = encode_utf8 (surrogate_pair_char high low)

-- the bytes that the pieces spell
abbrev pub text_of : List Piece → List ℕ
text_of [] = []
text_of (piece.Byte byte ∷ pieces) = byte ∷ text_of pieces
text_of (piece.Unit unit ∷ []) = lone_unit unit
text_of (piece.Unit unit ∷ piece.Byte byte ∷ pieces) = lone_unit unit ++ byte ∷ text_of pieces
text_of (piece.Unit unit ∷ piece.Unit next ∷ pieces) =
    (if is_high_surrogate unit && is_low_surrogate next
    then pair_of_units unit next ++ text_of pieces
    else lone_unit unit ++ text_of (piece.Unit next ∷ pieces))

-- a byte that stands for a whole character, or a unit
abbrev pub IsAsciiPiece : Piece → Type 0
IsAsciiPiece (piece.Byte byte) = byte < 128
IsAsciiPiece (piece.Unit unit) = ⊤
