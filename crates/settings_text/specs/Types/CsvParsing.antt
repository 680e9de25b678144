-- What the type `csv_parser` says.
use Rattle.std.specs.Prelude.{List, ℕ, [], ◌<◌, Bool, ◌||◌, codes, if◌then◌else◌, Result, Ok, Err}
use Rattle.std.specs.Str.{bytes_eq}
use Rattle.serde_json.specs.Data.{Data}
use Rattle.settings_text.specs.declared.fault.SettingsFault.{SettingsFault}
use Rattle.settings_text.specs.declared.fault.SettingsFault.TheVariants.{OutOfRange}
use Rattle.settings_text.specs.declared.settings.OpKind.{OpKind}
use Rattle.settings_text.specs.declared.settings.OpKind.TheVariants.{Csv}
use Rattle.settings_text.specs.Kinds.{Kind, must, may, name, text}
use Rattle.settings_text.specs.Names.{parts_of, are_names, single}
use Rattle.settings_text.specs.Outcome.{◌>>=◌}
use Rattle.settings_text.specs.Parsers as parsers

abbrev pub is_key : List ℕ → Bool
is_key name = bytes_eq name (codes "delimiter") || bytes_eq name (codes "header") || parsers.is_key name

-- names between delimiters
abbrev pub names : ℕ → List ℕ → List ℕ → Result (List ℕ) SettingsFault
names delimiter place header = if are_names (parts_of delimiter header) then Ok header else Err (OutOfRange place)

abbrev pub header : ℕ → Kind (List ℕ)
header delimiter place d = text place d >>= names delimiter place

unfoldable pub read : List ℕ → Data → Result OpKind SettingsFault
read at d = do
  delimiter ← may at (codes "delimiter") (name single) 44 d
  header ← must at (codes "header") (header delimiter) d
  parser ← parsers.read at d
  Ok (Csv delimiter header parser)

abbrev pub KeepsLimits : ℕ → Type 0
KeepsLimits delimiter = delimiter < 128
