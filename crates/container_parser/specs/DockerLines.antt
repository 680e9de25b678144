-- Lines of Docker's JSON files, as `{"log":"it began\n","stream":"stdout","time":"2024-01-01T00:00:00.5Z"}`.
use Rattle.std.specs.Prelude.{◌≡◌, ℕ, false, List, cond, codes, Option, None, Some, option_and_then}
use Rattle.std.specs.Ordering.{is_eq, nat_cmp}
use Rattle.std.specs.Cmp.Lexicographic.{slice_cmp}
use Rattle.entry_model.specs.Datum.{Datum, null, boolean, int, text, list, fields, Members, no_members, member, is_map_datum}
use Rattle.json_text.specs.Grammar.{IsText}
use Rattle.container_parser.specs.Times.{IsTime}

-- the text is a JSON object of these members, or where there are none another JSON value, nested at most 64 deep
abbrev pub IsObjectOf : List ℕ → Option Members → Type 0
IsObjectOf line None = (value : Datum) × IsText 64 line value × (is_map_datum value ≡ false)
IsObjectOf line (Some members) = IsText 64 line (fields members)

-- the value of the member of this name
abbrev pub value_at : List ℕ → Members → Option Datum
value_at name no_members = None
value_at name (member other value rest) = cond (is_eq (slice_cmp nat_cmp name other)) (Some value) (value_at name rest)

abbrev pub text_in : Datum → Option (List ℕ)
text_in null = None
text_in (boolean b) = None
text_in (int z) = None
text_in (text bytes) = Some bytes
text_in (list items) = None
text_in (fields under) = None

-- the text that is the value of the member of this name
abbrev pub text_at : List ℕ → Members → Option (List ℕ)
text_at name members = option_and_then text_in (value_at name members)

-- the members `log`, `stream` and `time` are texts, and the last is a time
pub record IsDockerRecord (members : Members) (instant : ℕ) (stream log : List ℕ) : Type 0 where
  pub log_is : text_at (codes "log") members ≡ Some log
  pub stream_is : text_at (codes "stream") members ≡ Some stream
  pub time_text : List ℕ
  pub time_is : text_at (codes "time") members ≡ Some time_text
  pub time : IsTime time_text instant

-- the line is a JSON object with these members, nested at most 64 deep, whatever else it has
pub record IsDockerLine (line : List ℕ) (instant : ℕ) (stream log : List ℕ) : Type 0 where
  pub members : Members
  pub object : IsText 64 line (fields members)
  pub record_is : IsDockerRecord members instant stream log
