-- What was read of the keys of a parser.
use Rattle.std.proofs.Common.{◌≡◌, ℕ, List, [], ◌∷◌, ◌++◌, Bool, Option, None, Some, refl, sym, ap, ◌∙◌, rules}
use Rattle.std.specs.Prelude.{ℤ}
use Rattle.field_paths.proofs.Faults.{one_path}
use Rattle.field_paths.specs.Place.{Place}
use Rattle.op_kinds.proofs.Readings.{all_are_read, one_is_read, two_are_read}
use Rattle.op_kinds.specs.Parsers.{IsLayout, IsGoLayout, IsTimeKind, IsStampOf, IsStamp, IsGradingOf, IsGrading, IsParser}
use Rattle.op_kinds.specs.Parsing.{Stamp, Parsing, stamp, parsing}
use Rattle.op_kinds.specs.Readings.{path, layout, go_layout, count, AreRead, layout_reading, time_readings, severity_readings, parser_readings}
use Rattle.op_kinds.specs.Said.{Reader}
use Rattle.settings_text.specs.declared.parsing.LayoutType.{LayoutType}
use Rattle.settings_text.specs.declared.parsing.LayoutType.TheVariants.{Strptime, Gotime, Epoch}
use Rattle.settings_text.specs.declared.parsing.ParserKeys.{ParserKeys}
use Rattle.settings_text.specs.declared.parsing.SeveritySpec.{SeveritySpec}
use Rattle.settings_text.specs.declared.parsing.TimeSpec.{TimeSpec}
use Rattle.time_layout.specs.Meaning.{Meaning}
use Rattle.time_layout.specs.declared.parts.Part.{Part}
use Rattle.time_severity.specs.Gradings.{Grading}
use Rattle.time_severity.specs.Rules.{Rule}
use Rattle.time_severity.specs.declared.time_op.TimeKind.{TimeKind}
use Rattle.time_severity.specs.declared.time_op.TimeKind.TheVariants as time

-- ---- what is made was read

pub time_kind_is_read : (layout_type : LayoutType) (text : List ℕ) (location : ℤ) (kind : TimeKind) → IsTimeKind layout_type text location kind → AreRead (layout_reading layout_type text ∷ [])
time_kind_is_read Strptime text location (time.Layout made) is = one_is_read (layout text) (λ none. none made.parts is.parts)
time_kind_is_read Strptime text location (time.Epoch kind) is = absurd is
time_kind_is_read Gotime text location (time.Layout made) is = one_is_read (go_layout text) (λ none. none made.parts is.parts)
time_kind_is_read Gotime text location (time.Epoch kind) is = absurd is
time_kind_is_read Epoch text location (time.Layout made) is = absurd is
time_kind_is_read Epoch text location (time.Epoch kind) is = one_is_read (count text) (λ none. absurd (search (rules, sym none ∙ is)))

pub stamp_is_read : (spec : Option TimeSpec) (made : Option Stamp) → IsStamp spec made → AreRead (time_readings spec)
stamp_is_read None made is = λ reading has faulty. has
stamp_is_read (Some spec) None is = absurd is
stamp_is_read (Some spec) (Some made) is =
    all_are_read (path spec.parse_from ∷ []) (layout_reading spec.layout_type spec.layout ∷ []) (one_is_read (path spec.parse_from) (λ none. none made.from is.from))
    (time_kind_is_read spec.layout_type spec.layout spec.location made.kind is.kind)

pub grading_is_read : (spec : Option SeveritySpec) (made : Option Grading) → IsGrading spec made → AreRead (severity_readings spec)
grading_is_read None made is = λ reading has faulty. has
grading_is_read (Some spec) None is = absurd is
grading_is_read (Some spec) (Some made) is = one_is_read (path spec.parse_from) (λ none. none made.from is.from)

pub parser_is_read : (reader : Reader) (keys : ParserKeys) (made : Parsing) → IsParser reader keys made → AreRead (parser_readings keys)
parser_is_read reader keys made is =
    all_are_read (path keys.parse_from ∷ path keys.parse_to ∷ []) (time_readings keys.timestamp ++ severity_readings keys.severity)
    (two_are_read (path keys.parse_from) (path keys.parse_to) (λ none. none made.from is.from) (λ none. none made.to is.to))
    (all_are_read (time_readings keys.timestamp) (severity_readings keys.severity) (stamp_is_read keys.timestamp made.timestamp is.timestamp) (grading_is_read keys.severity made.severity is.severity))

-- ---- one parser

layout_with : List Part → ℤ → Meaning
layout_with parts location = record { parts = parts; location = location }

one_layout : (text : List ℕ) (location : ℤ) (made other : Meaning) → IsLayout text location made → IsLayout text location other → made ≡ other
unfolding layout_with
one_layout text location made other is also =
    let parts : made.parts ≡ other.parts = cc (sym is.parts ∙ also.parts) in
    ap (λ p. layout_with p made.location) parts ∙ ap (layout_with other.parts) (is.location_is ∙ sym also.location_is)

one_go_layout : (text : List ℕ) (location : ℤ) (made other : Meaning) → IsGoLayout text location made → IsGoLayout text location other → made ≡ other
unfolding layout_with
one_go_layout text location made other is also =
    let parts : made.parts ≡ other.parts = cc (sym is.parts ∙ also.parts) in
    ap (λ p. layout_with p made.location) parts ∙ ap (layout_with other.parts) (is.location_is ∙ sym also.location_is)

one_time_kind : (layout_type : LayoutType) (text : List ℕ) (location : ℤ) (made other : TimeKind) → IsTimeKind layout_type text location made → IsTimeKind layout_type text location other → made ≡ other
one_time_kind Strptime text location (time.Layout made) (time.Layout other) is also = ap time.Layout (one_layout text location made other is also)
one_time_kind Strptime text location (time.Layout made) (time.Epoch other) is also = absurd also
one_time_kind Strptime text location (time.Epoch made) other is also = absurd is
one_time_kind Gotime text location (time.Layout made) (time.Layout other) is also = ap time.Layout (one_go_layout text location made other is also)
one_time_kind Gotime text location (time.Layout made) (time.Epoch other) is also = absurd also
one_time_kind Gotime text location (time.Epoch made) other is also = absurd is
one_time_kind Epoch text location (time.Layout made) other is also = absurd is
one_time_kind Epoch text location (time.Epoch made) (time.Layout other) is also = absurd also
one_time_kind Epoch text location (time.Epoch made) (time.Epoch other) is also = let same : made ≡ other = cc (sym is ∙ also) in ap time.Epoch same

pub one_stamp_of : (spec : TimeSpec) (made other : Stamp) → IsStampOf spec made → IsStampOf spec other → made ≡ other
one_stamp_of spec made other is also =
    ap (λ p. stamp p made.kind) (one_path spec.parse_from made.from other.from is.from also.from)
    ∙ ap (stamp other.from) (one_time_kind spec.layout_type spec.layout spec.location made.kind other.kind is.kind also.kind)

one_stamp : (spec : Option TimeSpec) (made other : Option Stamp) → IsStamp spec made → IsStamp spec other → made ≡ other
one_stamp None None None is also = refl
one_stamp None None (Some other) is also = absurd also
one_stamp None (Some made) other is also = absurd is
one_stamp (Some spec) None other is also = absurd is
one_stamp (Some spec) (Some made) None is also = absurd also
one_stamp (Some spec) (Some made) (Some other) is also = ap (λ (s : Stamp). Some s) (one_stamp_of spec made other is also)

grading_with : Place → Bool → Bool → List Rule → Grading
grading_with from preset overwrite_text rules = record { from = from; preset = preset; overwrite_text = overwrite_text; rules = rules }

pub one_grading_of : (spec : SeveritySpec) (made other : Grading) → IsGradingOf spec made → IsGradingOf spec other → made ≡ other
unfolding grading_with
one_grading_of spec made other is also =
    ap (λ p. grading_with p made.preset made.overwrite_text made.rules) (one_path spec.parse_from made.from other.from is.from also.from)
    ∙ ap (λ b. grading_with other.from b made.overwrite_text made.rules) (is.preset ∙ sym also.preset)
    ∙ ap (λ b. grading_with other.from other.preset b made.rules) (is.overwrite_text ∙ sym also.overwrite_text)
    ∙ ap (grading_with other.from other.preset other.overwrite_text) (is.rules ∙ sym also.rules)

one_grading : (spec : Option SeveritySpec) (made other : Option Grading) → IsGrading spec made → IsGrading spec other → made ≡ other
one_grading None None None is also = refl
one_grading None None (Some other) is also = absurd also
one_grading None (Some made) other is also = absurd is
one_grading (Some spec) None other is also = absurd is
one_grading (Some spec) (Some made) None is also = absurd also
one_grading (Some spec) (Some made) (Some other) is also = ap (λ (g : Grading). Some g) (one_grading_of spec made other is also)

pub one_parser : (reader : Reader) (keys : ParserKeys) (made other : Parsing) → IsParser reader keys made → IsParser reader keys other → made ≡ other
one_parser reader keys made other is also =
    ap (λ r. parsing r made.from made.to made.timestamp made.severity) (is.reader_is ∙ sym also.reader_is)
    ∙ ap (λ p. parsing other.reader p made.to made.timestamp made.severity) (one_path keys.parse_from made.from other.from is.from also.from)
    ∙ ap (λ p. parsing other.reader other.from p made.timestamp made.severity) (one_path keys.parse_to made.to other.to is.to also.to)
    ∙ ap (λ s. parsing other.reader other.from other.to s made.severity) (one_stamp keys.timestamp made.timestamp other.timestamp is.timestamp also.timestamp)
    ∙ ap (parsing other.reader other.from other.to other.timestamp) (one_grading keys.severity made.severity other.severity is.severity also.severity)
