-- The text of a path: a root, and at most 32 members.
use Rattle.std.specs.Prelude.{◌≡◌, ◌≢◌, ℕ, ◌+◌, ◌<◌, ◌≤◌, List, [], ◌∷◌, ◌++◌, length, take, codes, Bool, ◌==◌, ◌||◌, ◌&&◌, nat_le, IsTrue, ◌⊎◌}
use Rattle.std.specs.List.{list_all}
use Rattle.field_paths.specs.declared.path.Root.{Root}
use Rattle.field_paths.specs.declared.path.Root.TheVariants.{Body, Attributes, Resource}
use Rattle.field_paths.specs.Place.{Place}

-- the text is made of parts, one for each of xs and in this order
abbrev pub InARow : {A : Type 0} → (List ℕ → A → Type 0) → List ℕ → List A → Type 0
InARow Writes text [] = text ≡ []
InARow Writes text (x ∷ xs) = (part : List ℕ) × (rest : List ℕ) × (text ≡ part ++ rest) × Writes part x × InARow Writes rest xs

unfoldable pub root_name : Root → List ℕ
root_name Body = codes "body"
root_name Attributes = codes "attributes"
root_name Resource = codes "resource"

abbrev pub is_within : ℕ → ℕ → ℕ → Bool
is_within low high byte = nat_le low byte && nat_le byte high

-- ASCII letters, digits, `_` and `-`
unfoldable pub is_name_byte : ℕ → Bool
is_name_byte byte = is_within 97 122 byte || is_within 65 90 byte || is_within 48 57 byte || (byte == 95) || (byte == 45)

-- `"` and `'`
unfoldable pub is_quote : ℕ → Bool
is_quote byte = (byte == 34) || (byte == 39)

-- what a backslash may stand before: a quote or a backslash
unfoldable pub is_escaped : ℕ → Bool
is_escaped byte = is_quote byte || (byte == 92)

-- how a byte of a name stands between two of these quotes: as itself, or behind a backslash
abbrev pub WritesByte : ℕ → List ℕ → ℕ → Type 0
WritesByte quote text byte = ((text ≡ byte ∷ []) × (byte ≢ quote) × (byte ≢ 92)) ⊎ ((text ≡ 92 ∷ byte ∷ []) × IsTrue (is_escaped byte))

-- `.` and one or more name bytes
abbrev pub IsDotted : List ℕ → List ℕ → Type 0
IsDotted text name = (text ≡ 46 ∷ name) × (name ≢ []) × IsTrue (list_all is_name_byte name)

-- `["..."]` or `['...']`
abbrev pub IsBracketed : List ℕ → List ℕ → Type 0
IsBracketed text name = (quote : ℕ) × (inner : List ℕ) × IsTrue (is_quote quote)
    × (text ≡ 91 ∷ quote ∷ (inner ++ quote ∷ 93 ∷ [])) × InARow (WritesByte quote) inner name

abbrev pub WritesMember : List ℕ → List ℕ → Type 0
WritesMember text name = IsDotted text name ⊎ IsBracketed text name

-- the text is one of the place
pub record IsPathText (text : List ℕ) (place : Place) : Type 0 where
  pub members : List ℕ
  pub is : text ≡ root_name place.root ++ members
  pub in_a_row : InARow WritesMember members place.names
  pub few : length place.names ≤ 32

-- some text that begins so is one of a place
pub record BeginsPathText (front : List ℕ) : Type 0 where
  pub rest : List ℕ
  pub place : Place
  pub goes_on : IsPathText (front ++ rest) place

-- the text is that of no place, and `at` is its first byte from which it can't go on to be one, or its length
-- where only more is missing
pub record IsFaultAt (text : List ℕ) (at : ℕ) : Type 0 where
  pub no_path : (place : Place) → IsPathText text place → ⊥
  pub within : at ≤ length text
  pub before : BeginsPathText (take at text)
  pub not_past : at < length text → BeginsPathText (take (at + 1) text) → ⊥
