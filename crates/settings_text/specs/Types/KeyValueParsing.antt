-- What the type `key_value_parser` says.
use Rattle.std.specs.Prelude.{◌≡◌, ◌≢◌, List, ℕ, [], ◌∷◌, Bool, not, ◌||◌, ◌&&◌, codes, if◌then◌else◌, Option, None, Some, Result, Ok, Err}
use Rattle.std.specs.Str.{bytes_eq}
use Rattle.serde_json.specs.Data.{Data}
use Rattle.settings_text.specs.declared.fault.SettingsFault.{SettingsFault}
use Rattle.settings_text.specs.declared.fault.SettingsFault.TheVariants.{OutOfRange}
use Rattle.settings_text.specs.declared.settings.OpKind.{OpKind}
use Rattle.settings_text.specs.declared.settings.OpKind.TheVariants.{KeyValue}
use Rattle.settings_text.specs.Kinds.{Kind, may, given, text}
use Rattle.settings_text.specs.Names.{is_delimiter}
use Rattle.settings_text.specs.Outcome.{◌>>=◌}
use Rattle.settings_text.specs.Parsers as parsers

abbrev pub is_key : List ℕ → Bool
is_key name = bytes_eq name (codes "delimiter") || bytes_eq name (codes "pair_delimiter") || parsers.is_key name

abbrev pub if_fits : Bool → List ℕ → List ℕ → Result (List ℕ) SettingsFault
if_fits fits place content = if fits then Ok content else Err (OutOfRange place)

-- what parts a key from its value
abbrev pub within : Kind (List ℕ)
within place d = text place d >>= λ content. if_fits (is_delimiter content) place content

-- what parts pairs, other than that
abbrev pub between : List ℕ → Kind (List ℕ)
between delimiter place d = text place d >>= λ content. if_fits (is_delimiter content && not (bytes_eq content delimiter)) place content

unfoldable pub read : List ℕ → Data → Result OpKind SettingsFault
read at d = do
  delimiter ← may at (codes "delimiter") within (61 ∷ []) d
  pair_delimiter ← may at (codes "pair_delimiter") (given (between delimiter)) None d
  parser ← parsers.read at d
  Ok (KeyValue delimiter pair_delimiter parser)

-- no delimiter is empty
pub record KeepsLimits (delimiter : List ℕ) (pair_delimiter : Option (List ℕ)) : Type 0 where
  pub some : delimiter ≢ []
  pub some_between : (between : List ℕ) → pair_delimiter ≡ Some between → between ≢ []
