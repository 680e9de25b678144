-- What the keys of a time say: at which field it is told, and how.
use Rattle.std.specs.Prelude.{ℕ, ◌+◌, ◌-◌, ◌*◌, ◌==◌, ◌&&◌, ◌||◌, nat_le, if◌then◌else◌, List, ◌++◌, length, slice_index, codes, Bool, true, ℤ, pos, neg_ℤ, Option, None, Some, Result, Ok, Err}
use Rattle.std.specs.Char.{is_ascii_digit}
use Rattle.std.specs.Str.{bytes_eq}
use Rattle.serde_json.specs.Data.{Data}
use Rattle.serde_json.specs.Find.{as_object}
use Rattle.settings_text.specs.declared.fault.SettingsFault.{SettingsFault}
use Rattle.settings_text.specs.declared.fault.SettingsFault.TheVariants.{WrongKind, OutOfRange}
use Rattle.settings_text.specs.declared.parsing.LayoutType.{LayoutType}
use Rattle.settings_text.specs.declared.parsing.LayoutType.TheVariants.{Strptime, Gotime, Epoch}
use Rattle.settings_text.specs.declared.parsing.TimeSpec.{TimeSpec}
use Rattle.settings_text.specs.Kinds.{Kind, must, may, known, name, text}
use Rattle.settings_text.specs.Outcome.{◌>>=◌, or_fault}

abbrev pub is_key : List ℕ → Bool
is_key name =
    bytes_eq name (codes "parse_from") || bytes_eq name (codes "layout_type") || bytes_eq name (codes "layout") || bytes_eq name (codes "location")

-- ---- layouts

abbrev pub type_named : List ℕ → Option LayoutType
type_named name =
    if bytes_eq name (codes "strptime") then Some Strptime else (
    if bytes_eq name (codes "gotime") then Some Gotime else (
    if bytes_eq name (codes "epoch") then Some Epoch else None))

-- what a count since 1970 counts, and behind a point what its fraction has digits down to
abbrev pub is_count : List ℕ → Bool
is_count layout =
    bytes_eq layout (codes "s") || bytes_eq layout (codes "ms") || bytes_eq layout (codes "us") || bytes_eq layout (codes "ns")
    || bytes_eq layout (codes "s.ms") || bytes_eq layout (codes "s.us") || bytes_eq layout (codes "s.ns")

-- directives and reference times are read later
abbrev pub fits : LayoutType → List ℕ → Bool
fits Strptime layout = true
fits Gotime layout = true
fits Epoch layout = is_count layout

abbrev pub fitting : LayoutType → List ℕ → List ℕ → Result (List ℕ) SettingsFault
fitting layout_type place layout = if fits layout_type layout then Ok layout else Err (OutOfRange place)

abbrev pub layout : LayoutType → Kind (List ℕ)
layout layout_type place d = text place d >>= fitting layout_type place

-- ---- locations

-- the number that two digits spell, where it is no more than this
abbrev pub two_digits : ℕ → ℕ → ℕ → Option ℕ
two_digits most tens ones =
    if is_ascii_digit tens && (is_ascii_digit ones && nat_le ((tens - 48) * 10 + (ones - 48)) most) then Some ((tens - 48) * 10 + (ones - 48)) else None

-- seconds behind `+` or `-`
abbrev pub signed : ℕ → ℕ → Option ℤ
signed sign seconds = if sign == 43 then Some (pos seconds) else (if sign == 45 then Some (neg_ℤ (pos seconds)) else None)

abbrev pub clock_distance : ℕ → Option ℕ → Option ℕ → Option ℤ
clock_distance sign None minutes = None
clock_distance sign (Some hours) None = None
clock_distance sign (Some hours) (Some minutes) = signed sign (hours * 3600 + minutes * 60)

-- `+hh:mm` or `-hh:mm`
abbrev pub distance : List ℕ → Option ℤ
distance name =
    if (length name == 6) && (slice_index name 3 == 58)
    then clock_distance (slice_index name 0) (two_digits 23 (slice_index name 1) (slice_index name 2)) (two_digits 59 (slice_index name 4) (slice_index name 5))
    else None

-- in seconds east of UTC
unfoldable pub location_named : List ℕ → Option ℤ
location_named name = if bytes_eq name (codes "UTC") then Some (pos 0) else distance name

-- ---- the whole

unfoldable pub read : List ℕ → Data → Result TimeSpec SettingsFault
read at d = do
  parse_from ← must at (codes "parse_from") text d
  layout_type ← may at (codes "layout_type") (name type_named) Strptime d
  layout ← must at (codes "layout") (layout layout_type) d
  location ← may at (codes "location") (name location_named) (pos 0) d
  Ok (record { parse_from = parse_from; layout_type = layout_type; layout = layout; location = location })

-- an object of these keys
abbrev pub block : Kind TimeSpec
block place d = do
  members ← or_fault (WrongKind place) (as_object d)
  _ ← known is_key (place ++ codes ".") members
  read (place ++ codes ".") d
