-- The texts of layouts: of which pieces they are made, and where others go wrong.
use Rattle.std.specs.Prelude.{◌≡◌, ◌≢◌, ℕ, List, [], ◌∷◌, ◌++◌, length, true, false, Option, Some, None, option_and_then, Result, Ok, Err, ⊤, ◌⊎◌}
use Rattle.time_layout.specs.declared.directives.Given.{Given}
use Rattle.time_layout.specs.declared.parts.Part.{Part}
use Rattle.time_layout.specs.declared.parts.Part.TheVariants.{Literal}
use Rattle.time_layout.specs.LayoutText.{parts_of, with_part, nothing_given, is_complete}

-- bytes, and the parts for which they stand
abbrev pub Piece : Type 0
Piece = List ℕ × List Part

-- a byte that stands for itself, or a percent sign with a directive's letter
abbrev pub IsPiece : Piece → Type 0
IsPiece piece =
    ((byte : ℕ) × (piece.0 ≡ byte ∷ []) × (byte ≢ 37) × (piece.1 ≡ Literal byte ∷ []))
    ⊎ ((byte : ℕ) × (piece.0 ≡ 37 ∷ byte ∷ []) × (parts_of byte ≡ Some piece.1))

abbrev pub ArePieces : List Piece → Type 0
ArePieces [] = ⊤
ArePieces (piece ∷ pieces) = IsPiece piece × ArePieces pieces

abbrev pub bytes_of : List Piece → List ℕ
bytes_of [] = []
bytes_of (piece ∷ pieces) = piece.0 ++ bytes_of pieces

abbrev pub parts_in : List Piece → List Part
parts_in [] = []
parts_in (piece ∷ pieces) = piece.1 ++ parts_in pieces

-- what parts give besides, where they give nothing twice
abbrev pub given_by : List Part → Given → Option Given
given_by [] given = Some given
given_by (part ∷ parts) given = option_and_then (given_by parts) (with_part part given)

-- the text is made of pieces that stand for these parts, which give nothing twice and a whole day
pub record IsLayoutText (text : List ℕ) (parts : List Part) : Type 0 where
  pub pieces : List Piece
  pub are : ArePieces pieces
  pub is : text ≡ bytes_of pieces
  pub parts_are : parts ≡ parts_in pieces
  pub given : Given
  pub once : given_by parts nothing_given ≡ Some given
  pub complete : is_complete given ≡ true

-- what stands behind the pieces is no piece, or one that gives something twice, or nothing, where more is to be given
abbrev pub CannotGoOn : Given → List ℕ → Type 0
CannotGoOn given rest =
    ((rest ≡ []) × (is_complete given ≡ false))
    ⊎ ((rest ≡ 37 ∷ [])
    ⊎ ((byte : ℕ) × (more : List ℕ) × (rest ≡ 37 ∷ byte ∷ more)
    × ((parts_of byte ≡ None) ⊎ ((parts : List Part) × (parts_of byte ≡ Some parts) × (given_by parts given ≡ None)))))

-- pieces that give nothing twice stand before the place, and the text can't go on there
pub record IsLayoutFault (text : List ℕ) (at : ℕ) : Type 0 where
  pub pieces : List Piece
  pub rest : List ℕ
  pub are : ArePieces pieces
  pub is : text ≡ bytes_of pieces ++ rest
  pub place : at ≡ length (bytes_of pieces)
  pub given : Given
  pub once : given_by (parts_in pieces) nothing_given ≡ Some given
  pub stops : CannotGoOn given rest

-- what reading the text gives
abbrev pub IsLayoutOutcome : List ℕ → Result (List Part) ℕ → Type 0
IsLayoutOutcome text (Ok parts) = IsLayoutText text parts
IsLayoutOutcome text (Err at) = IsLayoutFault text at
