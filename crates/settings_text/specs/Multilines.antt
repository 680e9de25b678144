-- What the key `multiline` says: which lines begin or end the tokens.
use Rattle.std.specs.Prelude.{ℕ, List, [], ◌++◌, codes, Bool, true, false, ◌||◌, Result, Ok}
use Rattle.std.specs.Str.{bytes_eq}
use Rattle.serde_json.specs.Find.{as_object}
use Rattle.settings_text.specs.declared.fault.SettingsFault.{SettingsFault}
use Rattle.settings_text.specs.declared.fault.SettingsFault.TheVariants.{WrongKind}
use Rattle.settings_text.specs.declared.settings.Multiline.{Multiline}
use Rattle.settings_text.specs.declared.settings.Multiline.TheVariants.{Start, End}
use Rattle.settings_text.specs.Kinds.{Kind, known, either_text}
use Rattle.settings_text.specs.Outcome.{◌>>=◌, or_fault}

abbrev pub is_key : List ℕ → Bool
is_key name = bytes_eq name (codes "line_start_pattern") || bytes_eq name (codes "line_end_pattern")

-- patterns are read later
abbrev pub marked_by : Bool × List ℕ → Multiline
marked_by (true, pattern) = Start pattern
marked_by (false, pattern) = End pattern

-- an object of exactly one of these keys
abbrev pub multiline : Kind Multiline
multiline place d = do
  members ← or_fault (WrongKind place) (as_object d)
  _ ← known is_key (place ++ codes ".") members
  said ← either_text place (place ++ codes ".") (codes "line_start_pattern") (codes "line_end_pattern") d
  Ok (marked_by said)
