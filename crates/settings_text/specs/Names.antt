-- The names of a header, and delimiters.
use denote.Ref.{Bor}
use Rattle.std.specs.Prelude.{ℕ, List, [], ◌∷◌, ◌++◌, ◌==◌, ◌&&◌, ◌||◌, not, nat_lt, Bool, true, false, if◌then◌else◌, Option, None, Some}
use Rattle.std.specs.BTreeSet.{BTreeSet, contains_by}
use Rattle.std.specs.Cmp.Lexicographic.{slice_cmp}
use Rattle.std.specs.List.{list_any}
use Rattle.std.specs.Ordering.{nat_cmp}
use Rattle.settings_text.specs.Ids.{is_taken}

-- ---- names between delimiters

-- a byte in front of the first part
abbrev pub in_front : ℕ → List (List ℕ) → List (List ℕ)
in_front byte [] = []
in_front byte (part ∷ parts) = (byte ∷ part) ∷ parts

-- the parts of a text between the bytes that are this one
abbrev pub parts_of : ℕ → List ℕ → List (List ℕ)
parts_of delimiter [] = [] ∷ []
parts_of delimiter (byte ∷ rest) = if byte == delimiter then [] ∷ parts_of delimiter rest else in_front byte (parts_of delimiter rest)

-- the parts behind a delimiter, where there is one
abbrev pub parts_left : ℕ → List ℕ → Bool → List (List ℕ)
parts_left delimiter rest true = parts_of delimiter rest
parts_left delimiter rest false = []

abbrev pub is_empty : List ℕ → Bool
is_empty [] = true
is_empty (byte ∷ rest) = false

-- a name, which isn't one of the others
abbrev pub is_name : List ℕ → List (List ℕ) → Bool
is_name name others = not (is_empty name || is_taken name others)

-- none of the names is empty, and none stands twice
abbrev pub are_names : List (List ℕ) → Bool
are_names [] = true
are_names (name ∷ names) = is_name name names && are_names names

-- whether a set of texts has this one
abbrev pub has : BTreeSet (Bor (List ℕ)) → List ℕ → Bool
has texts text = contains_by (λ other. slice_cmp nat_cmp text other.now) texts

-- ---- delimiters

abbrev pub is_quote : ℕ → Bool
is_quote byte = (byte == 34) || (byte == 39)

-- a byte that parts the fields of a record: a character of ASCII, but for quotes and the ends of lines
abbrev pub parts_fields : ℕ → Bool
parts_fields byte = nat_lt byte 128 && not ((byte == 34) || (byte == 13) || (byte == 10))

abbrev pub single : List ℕ → Option ℕ
single [] = None
single (byte ∷ []) = if parts_fields byte then Some byte else None
single (byte ∷ next ∷ rest) = None

-- a text that parts keys, values and pairs: some bytes, and no quote among them
abbrev pub is_delimiter : List ℕ → Bool
is_delimiter text = not (is_empty text || list_any is_quote text)
