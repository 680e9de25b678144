-- How many records a text has.
use Rattle.std.specs.Prelude.{◌≡◌, ℕ, List, [], ◌∷◌}
use Rattle.text_parsers.specs.declared.records.Split.{Split}
use Rattle.text_parsers.specs.declared.records.Split.TheVariants.{Nothing, One, More}

-- none, this one, or this one and more
abbrev pub IsSplit : List (List (List ℕ)) → Split → List (List ℕ) → Type 0
IsSplit rows Nothing first = rows ≡ []
IsSplit rows One first = rows ≡ first ∷ []
IsSplit rows More first = (next : List (List ℕ)) × (more : List (List (List ℕ))) × (rows ≡ first ∷ next ∷ more)
