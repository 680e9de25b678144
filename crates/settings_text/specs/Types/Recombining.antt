-- What the type `recombine` says: which entries belong together, and how they are joined.
use Rattle.std.specs.Prelude.{List, [], ◌∷◌, ℕ, ◌≤◌, Bool, true, false, ◌==◌, ◌||◌, codes, if◌then◌else◌, Option, None, Some, Result, Ok}
use Rattle.std.specs.Str.{bytes_eq}
use Rattle.serde_json.specs.Data.{Data}
use Rattle.settings_text.specs.declared.fault.SettingsFault.{SettingsFault}
use Rattle.settings_text.specs.declared.settings.OpKind.{OpKind}
use Rattle.settings_text.specs.declared.settings.OpKind.TheVariants.{Recombine}
use Rattle.settings_text.specs.Kinds.{must, may, given, name, text, whole, either_text}
use Rattle.settings_text.specs.Outcome.{◌>>=◌}

abbrev pub is_key : List ℕ → Bool
is_key name =
    bytes_eq name (codes "combine_field") || bytes_eq name (codes "is_first_entry") || bytes_eq name (codes "is_last_entry") || bytes_eq name (codes "combine_with")
    || bytes_eq name (codes "max_batch_size") || bytes_eq name (codes "overwrite_with") || bytes_eq name (codes "source_identifier")

-- whether the newest entry goes on
abbrev pub overwriting_named : List ℕ → Option Bool
overwriting_named name = if bytes_eq name (codes "oldest") then Some false else (if bytes_eq name (codes "newest") then Some true else None)

-- the object whose keys stand behind it and a point: the place without a point at its end
abbrev pub object_place : List ℕ → List ℕ
object_place [] = []
object_place (byte ∷ []) = if byte == 46 then [] else byte ∷ []
object_place (byte ∷ next ∷ rest) = byte ∷ object_place (next ∷ rest)

-- the mark is that of first entries or that of last ones
abbrev pub marked : List ℕ → Data → Result (Bool × List ℕ) SettingsFault
marked at d = either_text (object_place at) at (codes "is_first_entry") (codes "is_last_entry") d

unfoldable pub read : List ℕ → Data → Result OpKind SettingsFault
read at d = do
  combine_field ← must at (codes "combine_field") text d
  mark ← marked at d
  combine_with ← may at (codes "combine_with") text (10 ∷ []) d
  max_batch_size ← may at (codes "max_batch_size") (whole 1 1000000) 1000 d
  newest ← may at (codes "overwrite_with") (name overwriting_named) false d
  source_identifier ← may at (codes "source_identifier") (given text) None d
  Ok (Recombine combine_field mark.0 mark.1 combine_with max_batch_size newest source_identifier)

-- how many entries a group may have
pub record KeepsLimits (max_batch_size : ℕ) : Type 0 where
  pub some : 1 ≤ max_batch_size
  pub most : max_batch_size ≤ 1000000
