-- How a report grows.
use Rattle.std.specs.Prelude.{◌≡◌, ℕ, List, ◌++◌, take}

abbrev pub Appends : List ℕ → List ℕ → List ℕ → Type 0
Appends line old new = new ≡ old ++ line

-- by the line, or by a part from its front where the print failed
abbrev pub GrowsByPart : List ℕ → List ℕ → List ℕ → Type 0
GrowsByPart line old new = (part : ℕ) × (new ≡ old ++ take part line)
