-- Texts that are one CSV record on one line, in which quotes enclose whole fields alone (RFC 4180, section 2).
use Rattle.std.specs.Prelude.{◌≡◌, ℕ, Bool, true, false, not, ◌==◌, ◌&&◌, List, [], ◌∷◌, ◌++◌, length, take}
use Rattle.std.specs.List.{list_all}
use Rattle.text_parsers.specs.CsvRecords.{records_of}
use Rattle.text_parsers.specs.Inner.Plain.{is_plain}

-- a byte of a field without quotes around it
abbrev pub is_bare : ℕ → ℕ → Bool
is_bare delimiter byte = is_plain byte && not (byte == delimiter)

-- the field that a part of the text is: itself, or what quotes around it enclose, delimiters among it
pub data IsField (delimiter : ℕ) : List ℕ → List ℕ → Type 0 where
  bare : {part : List ℕ} → list_all (is_bare delimiter) part ≡ true → IsField delimiter part part
  enclosed : {field : List ℕ} → list_all is_plain field ≡ true → IsField delimiter (34 ∷ field ++ 34 ∷ []) field

-- the fields of a text, between delimiters, which are no quote and no line end
pub data AreFields (delimiter : ℕ) : List ℕ → List (List ℕ) → Type 0 where
  last : {part field : List ℕ} → IsField delimiter part field → AreFields delimiter part (field ∷ [])
  more : {part field rest : List ℕ} {fields : List (List ℕ)} → is_plain delimiter ≡ true → IsField delimiter part field → AreFields delimiter rest fields
      → AreFields delimiter (part ++ delimiter ∷ rest) (field ∷ fields)

-- the fields behind a delimiter, where there is one
abbrev pub AreLeft : ℕ → List ℕ → Bool → List (List ℕ) → Type 0
AreLeft delimiter rest true fields = AreFields delimiter rest fields
AreLeft delimiter rest false fields = fields ≡ []

abbrev pub HasFields : ℕ → List ℕ → Type 0
HasFields delimiter text = (fields : List (List ℕ)) × AreFields delimiter text fields

abbrev pub HasFieldCount : ℕ → List ℕ → ℕ → Type 0
HasFieldCount delimiter text count = (fields : List (List ℕ)) × AreFields delimiter text fields × (count ≡ length fields)

-- so many bytes at the front are a field
abbrev pub BeginsWithField : ℕ → List ℕ → ℕ → Type 0
BeginsWithField delimiter text len = (field : List ℕ) × IsField delimiter (take len text) field

-- the first of the text's fields, what stands behind its delimiter, and whether there is one
abbrev pub IsFirstField : ℕ → List ℕ → List ℕ → List ℕ → Bool → Type 0
IsFirstField delimiter text field behind found = (fields : List (List ℕ)) → AreFields delimiter text fields
    → (left : List (List ℕ)) × AreLeft delimiter behind found left × (fields ≡ field ∷ left)

-- the text is one record with so many such fields
pub record HasRecord (delimiter : ℕ) (text : List ℕ) (count : ℕ) : Type 0 where
  pub fields : List (List ℕ)
  pub are : AreFields delimiter text fields
  pub only : records_of delimiter text ≡ fields ∷ []
  pub counted : count ≡ length fields
