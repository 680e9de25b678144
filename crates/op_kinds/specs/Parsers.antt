-- Which parser the settings of one ask for.
use Rattle.std.specs.Prelude.{◌≡◌, ◌≢◌, ⊤, ℕ, ℤ, List, [], map, true, if◌then◌else◌, Option, None, Some, Ok}
use Rattle.std.specs.Str.{bytes_eq}
use Rattle.std.specs.Prelude.{codes}
use Rattle.field_paths.specs.PathText.{IsPathText}
use Rattle.op_kinds.specs.Parsing.{Stamp, Parsing}
use Rattle.op_kinds.specs.Said.{Reader}
use Rattle.op_kinds.specs.declared.types.syslog_parsing.Protocol.{Protocol}
use Rattle.op_kinds.specs.declared.types.syslog_parsing.Protocol.TheVariants.{Rfc5424, Rfc3164}
use Rattle.settings_text.specs.Rules as settings
use Rattle.settings_text.specs.declared.mapping.MapWant.{MapWant}
use Rattle.settings_text.specs.declared.mapping.MapWant.TheVariants as wanted
use Rattle.settings_text.specs.declared.parsing.LayoutType.{LayoutType}
use Rattle.settings_text.specs.declared.parsing.LayoutType.TheVariants.{Strptime, Gotime, Epoch}
use Rattle.settings_text.specs.declared.parsing.ParserKeys.{ParserKeys}
use Rattle.settings_text.specs.declared.parsing.SeveritySpec.{SeveritySpec}
use Rattle.settings_text.specs.declared.parsing.TimeSpec.{TimeSpec}
use Rattle.text_parsers.specs.CsvRecords.{Columns, parts_of}
use Rattle.text_parsers.specs.Pairs.{Delimiters}
use Rattle.text_parsers.specs.Groups.{named_groups, names_in, is_shallow, reading}
use Rattle.time_layout.specs.GoLayouts.{go_parts}
use Rattle.time_layout.specs.LayoutText.{layout_parts}
use Rattle.time_layout.specs.Meaning.{Meaning}
use Rattle.time_layout.specs.declared.epoch.EpochKind.{EpochKind}
use Rattle.time_layout.specs.declared.epoch.EpochKind.TheVariants as epoch
use Rattle.time_severity.specs.Gradings.{Grading}
use Rattle.time_severity.specs.Rules.{Rule}
use Rattle.time_severity.specs.declared.rule.Want.{Want}
use Rattle.time_severity.specs.declared.rule.Want.TheVariants as want
use Rattle.time_severity.specs.declared.time_op.TimeKind.{TimeKind}
use Rattle.time_severity.specs.declared.time_op.TimeKind.TheVariants as time

-- the text is a pattern, of which some group has a name
pub record IsPattern (text : List ℕ) : Type 0 where
  pub read : is_shallow (reading text) ≡ true
  pub named : named_groups (names_in (reading text)) ≢ []

-- the names of a header, and what parts them
abbrev pub columns_of : ℕ → List ℕ → Columns
columns_of delimiter header = record { names = parts_of delimiter header; delimiter = delimiter }

-- what parts a key from its value, and what parts pairs
abbrev pub delimiters_of : List ℕ → Option (List ℕ) → Delimiters
delimiters_of within between = record { within = Some within; between = between }

-- ---- times

-- what a count since 1970 counts
abbrev pub count_named : List ℕ → Option EpochKind
count_named name =
    if bytes_eq name (codes "s") then Some epoch.S else (
    if bytes_eq name (codes "ms") then Some epoch.Ms else (
    if bytes_eq name (codes "us") then Some epoch.Us else (
    if bytes_eq name (codes "ns") then Some epoch.Ns else (
    if bytes_eq name (codes "s.ms") then Some epoch.SMs else (
    if bytes_eq name (codes "s.us") then Some epoch.SUs else (
    if bytes_eq name (codes "s.ns") then Some epoch.SNs else None))))))

-- the layout that the text spells, said at a location where it has no zone
pub record IsLayout (text : List ℕ) (location : ℤ) (layout : Meaning) : Type 0 where
  pub parts : layout_parts text ≡ Ok layout.parts
  pub location_is : layout.location ≡ location

-- the same of a text that spells a reference time
pub record IsGoLayout (text : List ℕ) (location : ℤ) (layout : Meaning) : Type 0 where
  pub parts : go_parts text ≡ Ok layout.parts
  pub location_is : layout.location ≡ location

-- the kind of time of a layout text
abbrev pub IsTimeKind : LayoutType → List ℕ → ℤ → TimeKind → Type 0
IsTimeKind Strptime text location (time.Layout layout) = IsLayout text location layout
IsTimeKind Strptime text location (time.Epoch kind) = ⊥
IsTimeKind Gotime text location (time.Layout layout) = IsGoLayout text location layout
IsTimeKind Gotime text location (time.Epoch kind) = ⊥
IsTimeKind Epoch text location (time.Layout layout) = ⊥
IsTimeKind Epoch text location (time.Epoch kind) = count_named text ≡ Some kind

pub record IsStampOf (spec : TimeSpec) (stamp : Stamp) : Type 0 where
  pub from : IsPathText spec.parse_from stamp.from
  pub kind : IsTimeKind spec.layout_type spec.layout spec.location stamp.kind

abbrev pub IsStamp : Option TimeSpec → Option Stamp → Type 0
IsStamp None None = ⊤
IsStamp None (Some stamp) = ⊥
IsStamp (Some spec) None = ⊥
IsStamp (Some spec) (Some stamp) = IsStampOf spec stamp

-- ---- severities

abbrev pub want_of : MapWant → Want
want_of (wanted.Text text) = want.Text text
want_of (wanted.Range min max) = want.Range min max

abbrev pub rule_of : settings.Rule → Rule
rule_of rule = record { severity = rule.severity; want = want_of rule.want }

pub record IsGradingOf (spec : SeveritySpec) (grading : Grading) : Type 0 where
  pub from : IsPathText spec.parse_from grading.from
  pub preset : grading.preset ≡ spec.preset
  pub overwrite_text : grading.overwrite_text ≡ spec.overwrite_text
  pub rules : grading.rules ≡ map rule_of spec.mapping

abbrev pub IsGrading : Option SeveritySpec → Option Grading → Type 0
IsGrading None None = ⊤
IsGrading None (Some grading) = ⊥
IsGrading (Some spec) None = ⊥
IsGrading (Some spec) (Some grading) = IsGradingOf spec grading

-- ---- syslog

-- a year that is given is that of RFC 3164
abbrev pub protocol_of : Option ℕ → ℤ → Protocol
protocol_of None location = Rfc5424
protocol_of (Some year) location = Rfc3164 year location

-- ---- the whole

pub record IsParser (reader : Reader) (keys : ParserKeys) (parsing : Parsing) : Type 0 where
  pub reader_is : parsing.reader ≡ reader
  pub from : IsPathText keys.parse_from parsing.from
  pub to : IsPathText keys.parse_to parsing.to
  pub timestamp : IsStamp keys.timestamp parsing.timestamp
  pub severity : IsGrading keys.severity parsing.severity
