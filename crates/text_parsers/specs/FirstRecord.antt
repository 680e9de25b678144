-- How the first record of a text is read byte by byte, as the crate `csv` reads it.
use Rattle.std.specs.Prelude.{◌≡◌, ℕ, ◌==◌, ◌||◌, not, Bool, true, false, List, [], ◌∷◌, drop, length, ◌≤◌, Option, None, Some, ⊤}
use Rattle.csv.specs.Machine.{next_record}
use Rattle.csv.specs.Records.{fields_of}
use Rattle.csv.specs.declared.parser.State.{State}
use Rattle.csv.specs.declared.parser.State.TheVariants as st
use Rattle.csv.specs.declared.parser.Action.{Action}
use Rattle.csv.specs.declared.parser.Action.TheVariants as act
use Rattle.text_parsers.specs.CsvRecords.{config_with}
use Rattle.text_parsers.specs.declared.records.Place.{Place}
use Rattle.text_parsers.specs.declared.records.Place.TheVariants.{Front, Between, Field, Quoted, Closed}
use Rattle.text_parsers.specs.declared.records.Step.{Step}
use Rattle.text_parsers.specs.declared.records.Step.TheVariants.{Skips, Adds, EndsField, EndsRecord}
use Rattle.text_parsers.specs.declared.records.Reading.{Reading}

abbrev pub is_line_end : ℕ → Bool
is_line_end byte = (byte == 13) || (byte == 10)

abbrev pub is_other : ℕ → Bool
is_other byte = not (is_line_end byte)

-- the machine's state at a place
abbrev pub state_of : Place → State
state_of Front = st.StartRecord
state_of Between = st.StartField
state_of Field = st.InField
state_of Quoted = st.InQuoted
state_of Closed = st.AfterQuote

-- the states behind a record
abbrev pub IsOver : State → Type 0
IsOver st.StartRecord = ⊤
IsOver st.AfterCr = ⊤
IsOver st.StartField = ⊥
IsOver st.InField = ⊥
IsOver st.InQuoted = ⊥
IsOver st.AfterQuote = ⊥
IsOver st.InEscape = ⊥
IsOver st.InComment = ⊥

-- what the machine does at a byte
abbrev pub IsStep : State × Action → Step → Type 0
IsStep did (Skips next) = did ≡ (state_of next, act.Skip)
IsStep did (Adds next) = did ≡ (state_of next, act.Copy)
IsStep did EndsField = did ≡ (st.StartField, act.EndField)
IsStep did EndsRecord = (did.1 ≡ act.EndRecord) × IsOver did.0

-- from here on the bytes give this record, and these are left
abbrev pub Gives : ℕ → Reading → List ℕ → List (List ℕ) → List ℕ → Type 0
Gives delimiter reading bytes fields left =
    (after : State) × (next_record (config_with delimiter) (state_of reading.place) (fields_of reading.row) reading.field.items bytes ≡ Some (fields, after, left)) × IsOver after

-- a byte more was read: the record goes on, or ends with it
abbrev pub Takes : ℕ → Reading → ℕ → Reading → Bool → Type 0
Takes delimiter reading byte read true = (rest : List ℕ)
    → next_record (config_with delimiter) (state_of reading.place) (fields_of reading.row) reading.field.items (byte ∷ rest)
    ≡ next_record (config_with delimiter) (state_of read.place) (fields_of read.row) read.field.items rest
Takes delimiter reading byte read false = (rest : List ℕ) → Gives delimiter reading (byte ∷ rest) (fields_of read.row) rest

-- the bytes end here, in a record with these fields or in front of one
abbrev pub HasEnded : Reading → List (List ℕ) → Bool → Type 0
HasEnded reading fields true = (delimiter : ℕ) → Gives delimiter reading [] fields []
HasEnded reading fields false = (delimiter : ℕ) → next_record (config_with delimiter) (state_of reading.place) (fields_of reading.row) reading.field.items [] ≡ None

-- the first record of a text, and where what stands behind it begins
abbrev pub IsFirst : ℕ → List ℕ → List (List ℕ) → Option ℕ → Type 0
IsFirst delimiter text fields None = next_record (config_with delimiter) st.StartRecord [] [] text ≡ None
IsFirst delimiter text fields (Some end) =
    (after : State) × (next_record (config_with delimiter) st.StartRecord [] [] text ≡ Some (fields, after, drop end text)) × IsOver after × (end ≤ length text)
