-- What the type `copy` says.
use Rattle.std.specs.Prelude.{List, ℕ, Bool, ◌||◌, codes, Result, Ok}
use Rattle.std.specs.Str.{bytes_eq}
use Rattle.serde_json.specs.Data.{Data}
use Rattle.settings_text.specs.declared.fault.SettingsFault.{SettingsFault}
use Rattle.settings_text.specs.declared.settings.OpKind.{OpKind}
use Rattle.settings_text.specs.declared.settings.OpKind.TheVariants.{Copy}
use Rattle.settings_text.specs.Kinds.{must, text}
use Rattle.settings_text.specs.Outcome.{◌>>=◌}

abbrev pub is_key : List ℕ → Bool
is_key name = bytes_eq name (codes "from") || bytes_eq name (codes "to")

abbrev pub read : List ℕ → Data → Result OpKind SettingsFault
read at d = must at (codes "from") text d >>= λ from. must at (codes "to") text d >>= λ to. Ok (Copy from to)
