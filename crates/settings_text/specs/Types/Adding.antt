-- What the type `add` says.
use Rattle.std.specs.Prelude.{List, ℕ, ◌≤◌, Bool, ◌||◌, codes, Result, Ok}
use Rattle.std.specs.Str.{bytes_eq}
use Rattle.serde_json.specs.Data.{Data}
use Rattle.settings_text.specs.declared.fault.SettingsFault.{SettingsFault}
use Rattle.settings_text.specs.declared.settings.OpKind.{OpKind}
use Rattle.settings_text.specs.declared.settings.OpKind.TheVariants.{Add}
use Rattle.settings_text.specs.Kinds.{must, text, value}
use Rattle.settings_text.specs.Outcome.{◌>>=◌}
use Rattle.entry_model.specs.Datum.{Datum}
use Rattle.entry_model.specs.Lawful.{nesting}

abbrev pub is_key : List ℕ → Bool
is_key name = bytes_eq name (codes "field") || bytes_eq name (codes "value")

abbrev pub read : List ℕ → Data → Result OpKind SettingsFault
read at d = must at (codes "field") text d >>= λ field. must at (codes "value") value d >>= λ added. Ok (Add field added)

abbrev pub KeepsLimits : Datum → Type 0
KeepsLimits added = nesting added ≤ 64
