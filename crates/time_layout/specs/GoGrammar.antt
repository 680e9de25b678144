-- The texts of layouts as Go's package `time` writes them: of which names and bytes they are made, where others go wrong, and
-- what a layout says of its own text.
use Rattle.std.specs.Prelude.{◌≡◌, ℕ, ◌<◌, ◌≤◌, List, [], ◌∷◌, ◌++◌, length, take, bytes_eq, true, false, if◌then◌else◌, Option, Some, None, option_and_then, Result, Ok, Err, ℤ, pos, neg_ℤ, ⊤, ◌⊎◌}
use Rattle.case_table.specs.Rows.{first_code}
use Rattle.case_table.specs.Tables.{gotime_table}
use Rattle.time_layout.specs.declared.directives.Given.{Given}
use Rattle.time_layout.specs.declared.go_layouts.Symbol.{Symbol}
use Rattle.time_layout.specs.declared.parts.Part.{Part}
use Rattle.time_layout.specs.declared.parts.Part.TheVariants.{PaddedDay, Zone, UnpaddedMonth, UnpaddedDay, UnpaddedTwelveHour, FractionPoint, ZoneName}
use Rattle.time_layout.specs.declared.parts.Said.{Said}
use Rattle.time_layout.specs.GoLayouts.{NameDraft, parts_with, symbol_at}
use Rattle.time_layout.specs.Instant.{clock_hour}
use Rattle.time_layout.specs.LayoutText.{with_part, nothing_given, is_complete}

-- the bytes are a name with this code
abbrev pub IsGoName : List ℕ → ℕ → Type 0
IsGoName own code = first_code (bytes_eq own) gotime_table ≡ Some code

-- no name of more bytes stands at the front of the text
abbrev pub NoLonger : List ℕ → ℕ → Type 0
NoLonger text size = (more code : ℕ) → size < more → more ≤ length text → IsGoName (take more text) code → ⊥

-- the code and the length of the longest name with which the text begins
abbrev pub IsLongest : List ℕ → Option (ℕ × ℕ) → Type 0
IsLongest text None = NoLonger text 0
IsLongest text (Some name) = (1 ≤ name.1) × (name.1 ≤ length text) × IsGoName (take name.1 text) name.0 × NoLonger text name.1

-- bytes, and what they stand for
abbrev pub NamePiece : Type 0
NamePiece = List ℕ × Symbol

-- just these bytes stand for it, where rest follows
abbrev pub IsNamePiece : NamePiece → List ℕ → Type 0
IsNamePiece piece rest = (symbol_at (piece.0 ++ rest) ≡ Some piece.1) × (length piece.0 ≡ piece.1.size) × (1 ≤ piece.1.size)

abbrev pub name_bytes : List NamePiece → List ℕ
name_bytes [] = []
name_bytes (piece ∷ pieces) = piece.0 ++ name_bytes pieces

abbrev pub named_parts : List NamePiece → List Part
named_parts [] = []
named_parts (piece ∷ pieces) = parts_with piece.1.part piece.1.more ++ named_parts pieces

abbrev pub AreNamePieces : List NamePiece → List ℕ → Type 0
AreNamePieces [] rest = ⊤
AreNamePieces (piece ∷ pieces) rest = IsNamePiece piece (name_bytes pieces ++ rest) × AreNamePieces pieces rest

-- what the pieces give besides, where they give nothing twice
abbrev pub names_give : List NamePiece → Given → Option Given
names_give [] given = Some given
names_give (piece ∷ pieces) given = option_and_then (names_give pieces) (with_part piece.1.part given)

-- the text is made of names and bytes that stand for these parts, which give nothing twice and a whole day
pub record IsGoText (text : List ℕ) (parts : List Part) (given : Given) : Type 0 where
  pub pieces : List NamePiece
  pub are : AreNamePieces pieces []
  pub is : text ≡ name_bytes pieces
  pub parts_are : parts ≡ named_parts pieces
  pub once : names_give pieces nothing_given ≡ Some given
  pub complete : is_complete given ≡ true

-- what stands behind the pieces is a digit that begins no name, or gives something twice, or nothing, where more is to be given
abbrev pub NamesStop : Given → List ℕ → Type 0
NamesStop given rest =
    ((rest ≡ []) × (is_complete given ≡ false))
    ⊎ ((1 ≤ length rest) × ((symbol_at rest ≡ None) ⊎ ((found : Symbol) × (symbol_at rest ≡ Some found) × (with_part found.part given ≡ None))))

pub record IsGoFault (text : List ℕ) (at : ℕ) : Type 0 where
  pub pieces : List NamePiece
  pub rest : List ℕ
  pub are : AreNamePieces pieces rest
  pub is : text ≡ name_bytes pieces ++ rest
  pub place : at ≡ length (name_bytes pieces)
  pub given : Given
  pub once : names_give pieces nothing_given ≡ Some given
  pub stops : NamesStop given rest

abbrev pub IsGoOutcome : List ℕ → Result NameDraft ℕ → Type 0
IsGoOutcome text (Ok s) = IsGoText text s.parts s.given
IsGoOutcome text (Err at) = IsGoFault text at

-- the name of the part is a text of it whatever follows: none of `1`, `2`, `3`, `_2`, `MST`, `Z0700` and `Z07:00` is, and no
-- `05` behind which a point stands for itself
abbrev pub IsPlain : Part → Type 0
IsPlain PaddedDay = ⊥
IsPlain (Zone colon) = ⊥
IsPlain UnpaddedMonth = ⊥
IsPlain UnpaddedDay = ⊥
IsPlain UnpaddedTwelveHour = ⊥
IsPlain FractionPoint = ⊥
IsPlain ZoneName = ⊥
IsPlain part = ⊤

abbrev pub ArePlain : List Part → Type 0
ArePlain [] = ⊤
ArePlain (part ∷ parts) = IsPlain part × ArePlain parts

-- 2006-01-02 15:04:05 at seven hours west of UTC, as far as a layout gives it
pub record IsReferenceTime (given : Given) (location : ℤ) (said : Said) : Type 0 where
  pub year : said.year ≡ 2006
  pub month : said.month ≡ 1
  pub day : said.day ≡ 2
  pub hour : clock_hour said.clock said.hour ≡ (if given.hour then 15 else 0)
  pub minute : said.minute ≡ (if given.minute then 4 else 0)
  pub second : said.second ≡ (if given.second then 5 else 0)
  pub nanosecond : said.nanosecond ≡ 0
  pub offset : said.offset ≡ (if given.zone then neg_ℤ (pos 25_200) else location)
