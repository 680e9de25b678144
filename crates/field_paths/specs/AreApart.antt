use Rattle.std.specs.Prelude.{◌≢◌, ℕ, List, [], ◌∷◌, ◌⊎◌}
use Rattle.field_paths.specs.Place.{Place}

-- neither list of names begins the other
abbrev pub Fork : List (List ℕ) → List (List ℕ) → Type 0
Fork [] others = ⊥
Fork (name ∷ names) [] = ⊥
Fork (name ∷ names) (other ∷ others) = (name ≢ other) ⊎ Fork names others

-- neither place is the other, above it or below it
abbrev pub AreApart : Place → Place → Type 0
AreApart place other = (place.root ≢ other.root) ⊎ Fork place.names other.names
