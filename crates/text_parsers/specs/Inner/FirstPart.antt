-- A text's first part up to a byte.
use Rattle.std.specs.Prelude.{◌≡◌, ℕ, Bool, true, false, not, ◌==◌, List, ◌∷◌, ◌++◌}
use Rattle.std.specs.List.{list_all}

-- the bytes have none that is this one
abbrev pub Lacks : ℕ → List ℕ → Type 0
Lacks delimiter bytes = list_all (λ byte. not (byte == delimiter)) bytes ≡ true

-- the first part of a text, what stands behind the delimiter, and whether there is one
abbrev pub IsFirstPart : ℕ → List ℕ → List ℕ → List ℕ → Bool → Type 0
IsFirstPart delimiter text part behind true = Lacks delimiter part × (text ≡ part ++ delimiter ∷ behind)
IsFirstPart delimiter text part behind false = Lacks delimiter part × (text ≡ part)
