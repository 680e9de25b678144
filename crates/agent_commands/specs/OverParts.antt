-- The words of a command whose output is in Parts.
use Rattle.std.specs.Prelude.{ℕ, List, [], ◌∷◌, codes, Bool, false, ◌&&◌, ◌||◌, IsTrue}
use Rattle.std.specs.Str.{bytes_eq}

abbrev pub is_parts_command : List ℕ → Bool
is_parts_command word = (((bytes_eq word (codes "once") || bytes_eq word (codes "follow")) || bytes_eq word (codes "adopt")) || bytes_eq word (codes "audit")) || bytes_eq word (codes "committed")

-- `segments` and one of them
abbrev pub is_over_parts : List (List ℕ) → Bool
is_over_parts (first ∷ command ∷ []) = bytes_eq first (codes "segments") && is_parts_command command
is_over_parts _ = false

abbrev pub IsOverParts : List (List ℕ) → Type 0
IsOverParts words = IsTrue (is_over_parts words)
