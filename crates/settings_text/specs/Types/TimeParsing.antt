-- What the type `time_parser` says.
use Rattle.std.specs.Prelude.{List, ℕ, Bool, Result, Ok}
use Rattle.serde_json.specs.Data.{Data}
use Rattle.settings_text.specs.declared.fault.SettingsFault.{SettingsFault}
use Rattle.settings_text.specs.declared.settings.OpKind.{OpKind}
use Rattle.settings_text.specs.declared.settings.OpKind.TheVariants.{Time}
use Rattle.settings_text.specs.Outcome.{◌>>=◌}
use Rattle.settings_text.specs.Times as times

abbrev pub is_key : List ℕ → Bool
is_key name = times.is_key name

abbrev pub read : List ℕ → Data → Result OpKind SettingsFault
read at d = times.read at d >>= λ time. Ok (Time time)
