-- What the type `regex_parser` says.
use Rattle.std.specs.Prelude.{List, ℕ, Bool, ◌||◌, codes, Result, Ok}
use Rattle.std.specs.Str.{bytes_eq}
use Rattle.serde_json.specs.Data.{Data}
use Rattle.settings_text.specs.declared.fault.SettingsFault.{SettingsFault}
use Rattle.settings_text.specs.declared.settings.OpKind.{OpKind}
use Rattle.settings_text.specs.declared.settings.OpKind.TheVariants.{Regex}
use Rattle.settings_text.specs.Kinds.{must, text}
use Rattle.settings_text.specs.Outcome.{◌>>=◌}
use Rattle.settings_text.specs.Parsers as parsers

abbrev pub is_key : List ℕ → Bool
is_key name = bytes_eq name (codes "regex") || parsers.is_key name

abbrev pub read : List ℕ → Data → Result OpKind SettingsFault
read at d = must at (codes "regex") text d >>= λ regex. parsers.read at d >>= λ parser. Ok (Regex regex parser)
