-- The severity that a value names, and the entry that is stamped with it.
use Rattle.std.specs.Prelude.{ℕ, List, Bool, ◌&&◌, nat_lt, if◌then◌else◌, Option, None, Some, Ok, Err}
use Rattle.std.specs.Fmt.{signed_decimal}
use Rattle.entry_model.specs.Datum.{Datum, null, boolean, int, text, list, fields}
use Rattle.entry_model.specs.LogRecord.{LogRecord}
use Rattle.field_paths.specs.Place.{Place}
use Rattle.field_paths.specs.ValueAt.{datum_at}
use Rattle.time_severity.specs.Outcome.{Outcome, where_found}
use Rattle.time_severity.specs.Presets.{preset_number, short_name}
use Rattle.time_severity.specs.Rules.{Rule, Subject, least_match}
use Rattle.time_severity.specs.Spelled.{number_spelled}
use Rattle.time_severity.specs.declared.fault.StampFault.TheVariants.{NotSeverity}

-- by what severities are told
pub record Grading : Type 0 where
  pub from : Place
  -- whether the short names and the aliases count
  pub preset : Bool
  -- whether the entry has the short name in place of its own word
  pub overwrite_text : Bool
  pub rules : List Rule

-- a severity number, 0 where none is known, and the text that stands for it
pub record Grade : Type 0 where
  pub number : ℕ
  pub name : List ℕ

abbrev pub or_zero : Option ℕ → ℕ
or_zero None = 0
or_zero (Some number) = number

abbrev pub by_preset : Bool → Option (List ℕ) → ℕ
by_preset preset None = 0
by_preset preset (Some word) = if preset then or_zero (preset_number word) else 0

abbrev pub or_preset : Option ℕ → Bool → Option (List ℕ) → ℕ
or_preset None preset word = by_preset preset word
or_preset (Some number) preset word = number

-- the mapping comes first, then the preset
abbrev pub severity_of : Grading → Subject → ℕ
severity_of grading subject = or_preset (least_match subject grading.rules) grading.preset subject.word

abbrev pub named_so : Bool → ℕ → List ℕ → Grade
named_so overwrite_text number spelled = record {
  number = number;
  name = if overwrite_text && nat_lt 0 number then short_name number else spelled;
}

abbrev pub grade_as : Grading → Subject → List ℕ → Grade
grade_as grading subject spelled = named_so grading.overwrite_text (severity_of grading subject) spelled

-- the grade of a text or a number; none of any other value
abbrev pub grade_of : Grading → Datum → Option Grade
grade_of grading null = None
grade_of grading (boolean b) = None
grade_of grading (int z) = Some (grade_as grading (record { word = None; number = Some z }) (signed_decimal z))
grade_of grading (text bytes) = Some (grade_as grading (record { word = Some bytes; number = number_spelled bytes }) bytes)
grade_of grading (list items) = None
grade_of grading (fields under) = None

abbrev pub graded_as : Option Grade → LogRecord → Outcome
graded_as None entry = Err NotSeverity
graded_as (Some grade) entry = Ok (record entry { severity = grade.number; severity_text = grade.name })

-- the entry with the severity that its value at `from` names; all else stays
abbrev pub graded : Grading → LogRecord → Outcome
graded grading entry = where_found (datum_at grading.from entry) (λ value. graded_as (grade_of grading value) entry)
