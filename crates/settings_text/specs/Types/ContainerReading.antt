-- What the type `container` says: the format of its lines, and whether the path of their file tells of a pod.
use Rattle.std.specs.Prelude.{List, ℕ, Bool, true, ◌||◌, codes, if◌then◌else◌, Option, None, Some, Result, Ok}
use Rattle.std.specs.Str.{bytes_eq}
use Rattle.serde_json.specs.Data.{Data}
use Rattle.settings_text.specs.declared.fault.SettingsFault.{SettingsFault}
use Rattle.settings_text.specs.declared.parsing.FormatSpec.{FormatSpec}
use Rattle.settings_text.specs.declared.parsing.FormatSpec.TheVariants.{Docker, Crio, Containerd}
use Rattle.settings_text.specs.declared.settings.OpKind.{OpKind}
use Rattle.settings_text.specs.declared.settings.OpKind.TheVariants.{Container}
use Rattle.settings_text.specs.Kinds.{may, given, name, flag}
use Rattle.settings_text.specs.Outcome.{◌>>=◌}

abbrev pub is_key : List ℕ → Bool
is_key name = bytes_eq name (codes "format") || bytes_eq name (codes "add_metadata_from_filepath")

abbrev pub format_named : List ℕ → Option FormatSpec
format_named name =
    if bytes_eq name (codes "docker") then Some Docker else (
    if bytes_eq name (codes "crio") then Some Crio else (
    if bytes_eq name (codes "containerd") then Some Containerd else None))

abbrev pub read : List ℕ → Data → Result OpKind SettingsFault
read at d = may at (codes "format") (given (name format_named)) None d >>= λ format. may at (codes "add_metadata_from_filepath") flag true d >>= λ adds. Ok (Container format adds)
