-- The pieces of a text between its delimiters.
use Rattle.std.specs.Prelude.{ℕ, ◌+◌, Bool, true, false, List, [], ◌∷◌, take, drop, map}
use Rattle.std.specs.List.{filter}
use Rattle.text_parsers.specs.Blanks.{blanks_before, trimmed}
use Rattle.text_parsers.specs.Cuts.{Delimiter, delimiter_len, IsUncut, IsFirstCut}

-- bytes, and the place of the first of them
pub record Piece : Type 0 where
  pub at : ℕ
  pub bytes : List ℕ

abbrev pub piece : ℕ → List ℕ → Piece
piece at bytes = record { at = at; bytes = bytes }

-- what stands from this place on is cut at each delimiter, from the front on, into these pieces
pub data ArePieces (delimiter : Delimiter) : ℕ → List ℕ → List Piece → Type 0 where
  uncut : {at : ℕ} {text : List ℕ} → IsUncut delimiter text → ArePieces delimiter at text (piece at text ∷ [])
  cut : {at k : ℕ} {text : List ℕ} {pieces : List Piece} → IsFirstCut delimiter text k
      → ArePieces delimiter (at + (k + delimiter_len delimiter)) (drop (k + delimiter_len delimiter) text) pieces
      → ArePieces delimiter at text (piece at (take k text) ∷ pieces)

-- without the blanks at its ends
abbrev pub trimmed_piece : Piece → Piece
trimmed_piece one = piece (one.at + blanks_before one.bytes) (trimmed one.bytes)

abbrev pub is_filled : List ℕ → Bool
is_filled [] = false
is_filled (byte ∷ bytes) = true

-- the pieces without the blanks at their ends, but for those that are empty then
abbrev pub filled : List Piece → List Piece
filled pieces = filter (λ one. is_filled one.bytes) (map trimmed_piece pieces)
