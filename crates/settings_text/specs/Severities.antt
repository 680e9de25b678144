-- What the keys of a severity say: at which field it is named, and how.
use Rattle.std.specs.Prelude.{ℕ, List, [], ◌++◌, codes, Bool, true, false, ◌||◌, if◌then◌else◌, Option, None, Some, Result, Ok}
use Rattle.std.specs.Str.{bytes_eq}
use Rattle.serde_json.specs.Data.{Data}
use Rattle.serde_json.specs.Find.{as_object}
use Rattle.settings_text.specs.declared.fault.SettingsFault.{SettingsFault}
use Rattle.settings_text.specs.declared.fault.SettingsFault.TheVariants.{WrongKind}
use Rattle.settings_text.specs.declared.parsing.SeveritySpec.{SeveritySpec}
use Rattle.settings_text.specs.Kinds.{Kind, must, may, known, flag, name, text}
use Rattle.settings_text.specs.Mappings.{mapping}
use Rattle.settings_text.specs.Outcome.{◌>>=◌, or_fault}

abbrev pub is_key : List ℕ → Bool
is_key name =
    bytes_eq name (codes "parse_from") || bytes_eq name (codes "preset") || bytes_eq name (codes "overwrite_text") || bytes_eq name (codes "mapping")

-- whether the short names and the aliases of severities count
abbrev pub preset_named : List ℕ → Option Bool
preset_named name = if bytes_eq name (codes "default") then Some true else (if bytes_eq name (codes "none") then Some false else None)

unfoldable pub read : List ℕ → Data → Result SeveritySpec SettingsFault
read at d = do
  parse_from ← must at (codes "parse_from") text d
  preset ← may at (codes "preset") (name preset_named) true d
  overwrite_text ← may at (codes "overwrite_text") flag false d
  mapping ← may at (codes "mapping") mapping [] d
  Ok (record { parse_from = parse_from; preset = preset; overwrite_text = overwrite_text; mapping = mapping })

-- an object of these keys
abbrev pub block : Kind SeveritySpec
block place d = do
  members ← or_fault (WrongKind place) (as_object d)
  _ ← known is_key (place ++ codes ".") members
  read (place ++ codes ".") d
