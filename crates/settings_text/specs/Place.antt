-- The names of places in the text, as faults have them.
use Rattle.std.specs.Prelude.{ℕ, List, ◌++◌, codes, decimal}

-- a member of the list at a place
abbrev pub item_place : List ℕ → ℕ → List ℕ
item_place place index = place ++ codes "[" ++ decimal index ++ codes "]"

-- a member of the object at a place
abbrev pub member_place : List ℕ → List ℕ → List ℕ
member_place place name = place ++ codes "." ++ name
