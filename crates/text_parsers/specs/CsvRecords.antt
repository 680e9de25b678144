-- Texts that are one CSV record, as the crate `csv` reads records.
use Rattle.std.specs.Prelude.{◌≡◌, ◌≢◌, ℕ, ◌==◌, if◌then◌else◌, Bool, true, false, List, [], ◌∷◌, length}
use Rattle.std.specs.Str.Lossy.{utf8_lossy}
use Rattle.csv.specs.Reading.{default_config, records, strip_bom}
use Rattle.csv.specs.declared.parser.Config.{Config}
use Rattle.entry_model.specs.Datum.{text, Members, members_of}
use Rattle.json_text.specs.Grammar.{Member, put_all}
use Rattle.text_parsers.specs.declared.fault.ParseFault.{ParseFault}
use Rattle.text_parsers.specs.declared.fault.ParseFault.TheVariants.{FieldCount, Syntax, Memory}

-- the names of the fields, and the byte that parts fields
pub record Columns : Type 0 where
  pub names : List (List ℕ)
  pub delimiter : ℕ

-- a byte in front of the first part
abbrev pub in_front : ℕ → List (List ℕ) → List (List ℕ)
in_front byte [] = []
in_front byte (part ∷ parts) = (byte ∷ part) ∷ parts

-- the parts of a text between the bytes that are this one
abbrev pub parts_of : ℕ → List ℕ → List (List ℕ)
parts_of delimiter [] = [] ∷ []
parts_of delimiter (byte ∷ rest) = (if byte == delimiter then [] ∷ parts_of delimiter rest else in_front byte (parts_of delimiter rest))

-- the parts behind a delimiter, where there is one
abbrev pub parts_left : ℕ → List ℕ → Bool → List (List ℕ)
parts_left delimiter rest true = parts_of delimiter rest
parts_left delimiter rest false = []

abbrev pub config_with : ℕ → Config
config_with delimiter = record default_config { delimiter = delimiter }

-- the records of a text without a header
unfoldable pub records_of : ℕ → List ℕ → List (List (List ℕ))
records_of delimiter front = records (config_with delimiter) (strip_bom front)

-- each name with its field, as a text: with U+FFFD for what isn't UTF-8
abbrev pub named : List (List ℕ) → List (List ℕ) → List Member
named [] fields = []
named (name ∷ names) [] = []
named (name ∷ names) (field ∷ fields) = (name, text (utf8_lossy field)) ∷ named names fields

-- the text is one record, with a field for each name
pub record IsRecordText (columns : Columns) (members : Members) (front : List ℕ) : Type 0 where
  pub fields : List (List ℕ)
  pub only : records_of columns.delimiter front ≡ fields ∷ []
  pub counted : length fields ≡ length columns.names
  pub members_are : members ≡ members_of (put_all [] (named columns.names fields))

-- the number of fields is told before a second record
pub data IsRecordFault (columns : Columns) (front : List ℕ) : ParseFault → Type 0 where
  no_record : records_of columns.delimiter front ≡ [] → IsRecordFault columns front (FieldCount (length columns.names) 0)
  other_count : {first : List (List ℕ)} {more : List (List (List ℕ))} → records_of columns.delimiter front ≡ first ∷ more
      → length first ≢ length columns.names → IsRecordFault columns front (FieldCount (length columns.names) (length first))
  second_record : {first next : List (List ℕ)} {more : List (List (List ℕ))} → records_of columns.delimiter front ≡ first ∷ next ∷ more
      → length first ≡ length columns.names → IsRecordFault columns front (Syntax 0)
  no_memory : IsRecordFault columns front Memory
