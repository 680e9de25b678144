-- What the type `retain` says.
use Rattle.std.specs.Prelude.{List, ℕ, ◌≤◌, length, Bool, codes, Result, Ok}
use Rattle.std.specs.Str.{bytes_eq}
use Rattle.serde_json.specs.Data.{Data}
use Rattle.settings_text.specs.declared.fault.SettingsFault.{SettingsFault}
use Rattle.settings_text.specs.declared.settings.OpKind.{OpKind}
use Rattle.settings_text.specs.declared.settings.OpKind.TheVariants.{Retain}
use Rattle.settings_text.specs.Kinds.{must, some_texts}
use Rattle.settings_text.specs.Outcome.{◌>>=◌}

abbrev pub is_key : List ℕ → Bool
is_key name = bytes_eq name (codes "fields")

abbrev pub read : List ℕ → Data → Result OpKind SettingsFault
read at d = must at (codes "fields") some_texts d >>= λ fields. Ok (Retain fields)

abbrev pub KeepsLimits : List (List ℕ) → Type 0
KeepsLimits fields = 1 ≤ length fields
