-- What tells parsers apart in a proof.
use Rattle.std.specs.Prelude.{◌≡◌, ◌⊎◌, ℕ, List, Bool, Option, refl}
use Rattle.std.specs.Coded.{Coded, code_by, coded_ℕ, coded_bool, coded_list, coded_option, coded×, coded⊎}
use base.Stored.{coded_unit}
use mathlib.Core.Logic.{inl, inr}
use Rattle.field_paths.specs.Place.{Place}
use Rattle.op_kinds.specs.Parsing.{Stamp, Parsing}
use Rattle.op_kinds.specs.PlaceCode.{place_code}
use Rattle.op_kinds.specs.Said.{Reader, by_pattern, as_json, as_record, as_pairs}
use Rattle.text_parsers.specs.CsvRecords.{Columns}
use Rattle.text_parsers.specs.Cuts.{Delimiter}
use Rattle.text_parsers.specs.Pairs.{Delimiters}
use Rattle.time_severity.specs.Gradings.{Grading}
use Rattle.time_severity.specs.Rules.{Rule}
use Rattle.time_severity.specs.contracts.rule.Want as want
use Rattle.time_severity.specs.contracts.time_op.TimeKind as time_kind
use Rattle.time_severity.specs.declared.rule.Want.{Want}
use Rattle.time_severity.specs.declared.time_op.TimeKind.{TimeKind}

abbrev pub Readers : Type 0
Readers = (List ℕ ⊎ Unit {0}) ⊎ (Columns ⊎ Delimiters)

abbrev pub reader_case : Reader → Readers
reader_case (by_pattern pattern) = inl (inl pattern)
reader_case as_json = inl (inr tt)
reader_case (as_record columns) = inr (inl columns)
reader_case (as_pairs delimiters) = inr (inr delimiters)

abbrev pub reader : Readers → Reader
reader (inl (inl pattern)) = by_pattern pattern
reader (inl (inr _)) = as_json
reader (inr (inl columns)) = as_record columns
reader (inr (inr delimiters)) = as_pairs delimiters

pub reader_back : (r : Reader) → reader (reader_case r) ≡ r
reader_back (by_pattern pattern) = refl
reader_back as_json = refl
reader_back (as_record columns) = refl
reader_back (as_pairs delimiters) = refl

abbrev pub columns_code : Coded Columns
columns_code = code_by (List (List ℕ) × ℕ) (coded× (coded_list (coded_list coded_ℕ)) coded_ℕ) (λ c. (c.names, c.delimiter)) (λ p. record { names = p.0; delimiter = p.1 }) (λ _. refl)

abbrev pub delimiters_code : Coded Delimiters
delimiters_code = code_by (Delimiter × Delimiter) (coded× (coded_option (coded_list coded_ℕ)) (coded_option (coded_list coded_ℕ))) (λ d. (d.within, d.between)) (λ p. record { within = p.0; between = p.1 }) (λ _. refl)

abbrev pub reader_code : Coded Reader
reader_code = code_by Readers (coded⊎ (coded⊎ (coded_list coded_ℕ) coded_unit) (coded⊎ columns_code delimiters_code)) reader_case reader reader_back

abbrev pub stamp_code : Coded Stamp
stamp_code = code_by (Place × TimeKind) (coded× place_code time_kind.the_row.coded) (λ s. (s.from, s.kind)) (λ p. record { from = p.0; kind = p.1 }) (λ _. refl)

abbrev pub rule_code : Coded Rule
rule_code = code_by (ℕ × Want) (coded× coded_ℕ want.the_row.coded) (λ r. (r.severity, r.want)) (λ p. record { severity = p.0; want = p.1 }) (λ _. refl)

abbrev pub grading_code : Coded Grading
grading_code = code_by (Place × (Bool × (Bool × List Rule))) (coded× place_code (coded× coded_bool (coded× coded_bool (coded_list rule_code))))
    (λ g. (g.from, (g.preset, (g.overwrite_text, g.rules)))) (λ p. record { from = p.0; preset = p.1.0; overwrite_text = p.1.1.0; rules = p.1.1.1 }) (λ _. refl)

abbrev pub parsing_code : Coded Parsing
parsing_code = code_by (Reader × (Place × (Place × (Option Stamp × Option Grading))))
    (coded× reader_code (coded× place_code (coded× place_code (coded× (coded_option stamp_code) (coded_option grading_code)))))
    (λ p. (p.reader, (p.from, (p.to, (p.timestamp, p.severity)))))
    (λ p. record { reader = p.0; from = p.1.0; to = p.1.1.0; timestamp = p.1.1.1.0; severity = p.1.1.1.1 })
    (λ _. refl)
