-- What the type `router` says: its routes, and where it sends what none of them takes.
use Rattle.std.specs.Prelude.{◌≡◌, ℕ, ◌≤◌, List, ◌++◌, length, Bool, ◌||◌, codes, nat_lt, if◌then◌else◌, Option, Some, None, slice_get, Result, Ok, Err}
use Rattle.std.specs.Str.{bytes_eq}
use Rattle.serde_json.specs.Data.{Data, Items, no_items, item}
use Rattle.serde_json.specs.Events.{items_len}
use Rattle.serde_json.specs.Find.{as_array, as_object}
use Rattle.settings_text.specs.declared.fault.SettingsFault.{SettingsFault}
use Rattle.settings_text.specs.declared.fault.SettingsFault.TheVariants.{WrongKind, OutOfRange}
use Rattle.settings_text.specs.declared.settings.OpKind.{OpKind}
use Rattle.settings_text.specs.declared.settings.OpKind.TheVariants.{Router}
use Rattle.settings_text.specs.declared.settings.RouteSpec.{RouteSpec}
use Rattle.settings_text.specs.Kinds.{Kind, must, may, known, each, given, text, text_or_texts, IsSomeIfWritten}
use Rattle.settings_text.specs.Outcome.{◌>>=◌, or_fault}
use Rattle.settings_text.specs.Place.{item_place}

abbrev pub is_key : List ℕ → Bool
is_key name = bytes_eq name (codes "routes") || bytes_eq name (codes "default")

abbrev pub is_route_key : List ℕ → Bool
is_route_key name = bytes_eq name (codes "expr") || bytes_eq name (codes "output")

-- the n-th route of the list at a place
unfoldable pub route : List ℕ → ℕ → Data → Result RouteSpec SettingsFault
route place n d = do
  members ← or_fault (WrongKind (item_place place n)) (as_object d)
  _ ← known is_route_key (item_place place n ++ codes ".") members
  expr ← must (item_place place n ++ codes ".") (codes "expr") text d
  output ← must (item_place place n ++ codes ".") (codes "output") text_or_texts d
  Ok (record { expr = expr; output = output })

-- from 1 to 65,534 routes
abbrev pub routable : List ℕ → Items → Result Items SettingsFault
routable place no_items = Err (OutOfRange place)
routable place (item d ds) = if nat_lt 65534 (items_len (item d ds)) then Err (OutOfRange place) else Ok (item d ds)

abbrev pub routes : Kind (List RouteSpec)
routes place d = do
  all ← or_fault (WrongKind place) (as_array d)
  few ← routable place all
  each (route place) 0 few

abbrev pub read : List ℕ → Data → Result OpKind SettingsFault
read at d = must at (codes "routes") routes d >>= λ routes. may at (codes "default") (given text_or_texts) None d >>= λ default. Ok (Router routes default)

pub record KeepsLimits (routes : List RouteSpec) (default : Option (List (List ℕ))) : Type 0 where
  pub some : 1 ≤ length routes
  pub few : length routes ≤ 65534
  pub outputs : (place : ℕ) (route : RouteSpec) → slice_get routes place ≡ Some route → 1 ≤ length route.output
  pub default_output : IsSomeIfWritten default
