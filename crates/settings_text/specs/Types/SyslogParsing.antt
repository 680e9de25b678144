-- What the type `syslog_parser` says: by which RFC texts are read, and of which year and distance from UTC their times are.
use Rattle.std.specs.Prelude.{List, ℕ, ℤ, pos, Bool, false, ◌||◌, ◌&&◌, if◌then◌else◌, codes, Option, None, Some, Result, Ok}
use Rattle.std.specs.Str.{bytes_eq}
use Rattle.serde_json.specs.Data.{Data}
use Rattle.serde_json.specs.Find.{get, as_str}
use Rattle.settings_text.specs.declared.fault.SettingsFault.{SettingsFault}
use Rattle.settings_text.specs.declared.settings.OpKind.{OpKind}
use Rattle.settings_text.specs.declared.settings.OpKind.TheVariants.{Syslog}
use Rattle.settings_text.specs.declared.types.syslog_parsing.Protocol.{Protocol}
use Rattle.settings_text.specs.declared.types.syslog_parsing.Protocol.TheVariants.{Rfc5424, Rfc3164}
use Rattle.settings_text.specs.Kinds.{must, may, given, name, whole}
use Rattle.settings_text.specs.Outcome.{◌>>=◌}
use Rattle.settings_text.specs.Parsers as parsers
use Rattle.settings_text.specs.Times.{location_named}

abbrev pub protocol_named : List ℕ → Option Protocol
protocol_named name = if bytes_eq name (codes "rfc5424") then Some Rfc5424 else (if bytes_eq name (codes "rfc3164") then Some Rfc3164 else None)

-- ---- keys

abbrev pub is_3164 : Option (List ℕ) → Bool
is_3164 None = false
is_3164 (Some name) = bytes_eq name (codes "rfc3164")

abbrev pub says_3164 : Option Data → Bool
says_3164 None = false
says_3164 (Some value) = is_3164 (as_str value)

-- whether the times of these settings have no year of their own
abbrev pub needs_year : Data → Bool
needs_year d = says_3164 (get (codes "protocol") d)

-- a year is a key of RFC 3164 alone
abbrev pub is_key : Data → List ℕ → Bool
is_key d name =
    bytes_eq name (codes "protocol") || bytes_eq name (codes "location") || parsers.is_field_key name || (bytes_eq name (codes "year") && needs_year d)

-- ---- what they say

abbrev pub year_of : Protocol → List ℕ → Data → Result (Option ℕ) SettingsFault
year_of Rfc5424 at d = Ok None
year_of Rfc3164 at d = must at (codes "year") (given (whole 1970 2553)) d

abbrev pub read : List ℕ → Data → Result OpKind SettingsFault
read at d = do
  protocol ← must at (codes "protocol") (name protocol_named) d
  year ← year_of protocol at d
  location ← may at (codes "location") (name location_named) (pos 0) d
  parser ← parsers.read_fields at d
  Ok (Syslog year location parser)
