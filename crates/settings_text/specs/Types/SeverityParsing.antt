-- What the type `severity_parser` says.
use Rattle.std.specs.Prelude.{List, ℕ, Bool, Result, Ok}
use Rattle.serde_json.specs.Data.{Data}
use Rattle.settings_text.specs.declared.fault.SettingsFault.{SettingsFault}
use Rattle.settings_text.specs.declared.settings.OpKind.{OpKind}
use Rattle.settings_text.specs.declared.settings.OpKind.TheVariants.{Severity}
use Rattle.settings_text.specs.Outcome.{◌>>=◌}
use Rattle.settings_text.specs.Severities as severities

abbrev pub is_key : List ℕ → Bool
is_key name = severities.is_key name

abbrev pub read : List ℕ → Data → Result OpKind SettingsFault
read at d = severities.read at d >>= λ severity. Ok (Severity severity)
