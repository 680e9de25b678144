-- The settings that were in force one after another, each until the next ones were adopted.
use Rattle.std.specs.Prelude.{◌≡◌, ℕ, zero, suc, List, ◌∷◌, [], length, map, Option, None, slice_get, All}
use Rattle.standing.specs.AreRules.{AreRules}
use Rattle.standing.specs.Rules.{Rules}

pub record Eras : Type 0 where
  pub first : Rules
  pub later : List Rules

abbrev pub all_eras : Eras → List Rules
all_eras eras = eras.first ∷ eras.later

abbrev pub era_count : Eras → ℕ
era_count eras = suc (length eras.later)

-- the rules of the era with this number, from 1
abbrev pub era_at : Eras → ℕ → Option Rules
era_at eras zero = None
era_at eras (suc n) = slice_get (all_eras eras) n

abbrev pub last_of : Rules → List Rules → Rules
last_of rules [] = rules
last_of rules (next ∷ later) = last_of next later

abbrev pub last_era : Eras → Rules
last_era eras = last_of eras.first eras.later

-- the texts of the settings
abbrev pub texts_of : Eras → List (List ℕ)
texts_of eras = map (λ (rules : Rules). rules.settings) (all_eras eras)

-- All share one output, and know files by as many bytes.
pub record AreEras (eras : Eras) : Type 0 where
  pub each : All AreRules (all_eras eras)
  pub one_line : All (λ (rules : Rules). rules.line ≡ eras.first.line) (all_eras eras)
  pub one_front_size : All (λ (rules : Rules). rules.front_size ≡ eras.first.front_size) (all_eras eras)
