-- How a place stands to another.
use Rattle.std.specs.Prelude.{◌≡◌, ℕ, List, ◌∷◌, ◌++◌}
use Rattle.field_paths.specs.AreApart.{AreApart, Fork}
use Rattle.field_paths.specs.Place.{Place}
use Rattle.field_paths.specs.declared.relation.Relation.{Relation}
use Rattle.field_paths.specs.declared.relation.Relation.TheVariants.{Apart, Below, AtOrAbove}

abbrev pub NamesRelate : Relation → List (List ℕ) → List (List ℕ) → Type 0
NamesRelate Apart names others = Fork names others
NamesRelate Below names others = (next : List ℕ) × (rest : List (List ℕ)) × (names ≡ others ++ next ∷ rest)
NamesRelate AtOrAbove names others = (rest : List (List ℕ)) × (others ≡ names ++ rest)

-- the place is apart from the other, properly below it, or the same or above it
abbrev pub Relates : Relation → Place → Place → Type 0
Relates Apart place other = AreApart place other
Relates Below place other = (place.root ≡ other.root) × NamesRelate Below place.names other.names
Relates AtOrAbove place other = (place.root ≡ other.root) × NamesRelate AtOrAbove place.names other.names
