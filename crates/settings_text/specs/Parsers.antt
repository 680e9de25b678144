-- What the keys that parsers share say: which field is parsed, where what it says is put, and which of it are time and severity.
use Rattle.std.specs.Prelude.{ℕ, List, codes, Bool, ◌||◌, None, Result, Ok}
use Rattle.std.specs.Str.{bytes_eq}
use Rattle.serde_json.specs.Data.{Data}
use Rattle.settings_text.specs.declared.fault.SettingsFault.{SettingsFault}
use Rattle.settings_text.specs.declared.parsing.ParserKeys.{ParserKeys}
use Rattle.settings_text.specs.Kinds.{may, given, text}
use Rattle.settings_text.specs.Outcome.{◌>>=◌}
use Rattle.settings_text.specs.Severities as severities
use Rattle.settings_text.specs.Times as times

abbrev pub is_key : List ℕ → Bool
is_key name =
    bytes_eq name (codes "parse_from") || bytes_eq name (codes "parse_to") || bytes_eq name (codes "timestamp") || bytes_eq name (codes "severity")

-- the keys of a parser whose texts tell time and severity themselves
abbrev pub is_field_key : List ℕ → Bool
is_field_key name = bytes_eq name (codes "parse_from") || bytes_eq name (codes "parse_to")

unfoldable pub read : List ℕ → Data → Result ParserKeys SettingsFault
read at d = do
  parse_from ← may at (codes "parse_from") text (codes "body") d
  parse_to ← may at (codes "parse_to") text (codes "attributes") d
  timestamp ← may at (codes "timestamp") (given times.block) None d
  severity ← may at (codes "severity") (given severities.block) None d
  Ok (record { parse_from = parse_from; parse_to = parse_to; timestamp = timestamp; severity = severity })

unfoldable pub read_fields : List ℕ → Data → Result ParserKeys SettingsFault
read_fields at d = do
  parse_from ← may at (codes "parse_from") text (codes "body") d
  parse_to ← may at (codes "parse_to") text (codes "attributes") d
  Ok (record { parse_from = parse_from; parse_to = parse_to; timestamp = None; severity = None })
