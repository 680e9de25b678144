-- What a parser in memory is.
use Rattle.std.specs.Prelude.{option_map}
use Rattle.field_paths.specs.PathText.{IsPathText}
use Rattle.op_kinds.specs.Parsers.{IsStamp, IsGrading}
use Rattle.op_kinds.specs.Parsing.{Stamp, Parsing}
use Rattle.op_kinds.specs.Said.{Reader, by_pattern, as_json, as_record, as_pairs}
use Rattle.op_kinds.specs.declared.parser.Parser.{Parser}
use Rattle.op_kinds.specs.declared.parser.Parser.TheVariants.{Regex, Json, Csv, KeyValue}
use Rattle.op_kinds.specs.declared.parsing.Keys.{Keys}
use Rattle.op_kinds.specs.declared.parsing.Parse.{Parse}
use Rattle.settings_text.specs.declared.parsing.ParserKeys.{ParserKeys}
use Rattle.time_severity.specs.declared.time_op.TimeOp.{TimeOp}

abbrev pub reader_of : Parser → Reader
reader_of (Regex op) = by_pattern op
reader_of (Json op) = as_json
reader_of (Csv op) = as_record op
reader_of (KeyValue pairs) = as_pairs pairs.op

abbrev pub stamp_of : TimeOp → Stamp
stamp_of op = record { from = op.from; kind = op.kind }

abbrev pub parsing_of : Parse → Parsing
parsing_of made = record {
  reader = reader_of made.parser;
  from = made.keys.from;
  to = made.keys.to;
  timestamp = option_map stamp_of made.keys.timestamp;
  severity = made.keys.severity;
}

-- these are what the settings of a parser ask for beside how a text is read
pub record AreKeysOf (keys : ParserKeys) (made : Keys) : Type 0 where
  pub from : IsPathText keys.parse_from made.from
  pub to : IsPathText keys.parse_to made.to
  pub timestamp : IsStamp keys.timestamp (option_map stamp_of made.timestamp)
  pub severity : IsGrading keys.severity made.severity
