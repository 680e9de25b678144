-- Paths: names joined by slashes, with a slash before them where the path is absolute. A path is the list of its bytes.
use Rattle.std.specs.Prelude.{ℕ, List, [], ◌∷◌, Bool, false, not, ◌==◌, ◌||◌, if◌then◌else◌, codes}
use Rattle.std.specs.List.{list_all}
use Rattle.std.specs.Str.{bytes_eq}

-- a byte in front of the first name
abbrev pub in_front : ℕ → List (List ℕ) → List (List ℕ)
in_front byte [] = (byte ∷ []) ∷ []
in_front byte (first ∷ others) = (byte ∷ first) ∷ others

-- the names between the slashes
abbrev pub names : List ℕ → List (List ℕ)
names [] = [] ∷ []
names (byte ∷ rest) = if byte == 47 then [] ∷ names rest else in_front byte (names rest)

abbrev pub is_absolute : List ℕ → Bool
is_absolute [] = false
is_absolute (byte ∷ rest) = byte == 47

-- the path without the slash that makes it absolute
abbrev pub relative : List ℕ → List ℕ
relative [] = []
relative (byte ∷ rest) = if byte == 47 then rest else byte ∷ rest

-- neither nothing nor `.` nor `..`
abbrev pub is_name : List ℕ → Bool
is_name name = not (bytes_eq name [] || bytes_eq name (codes ".") || bytes_eq name (codes ".."))

abbrev pub is_path : List ℕ → Bool
is_path path = list_all is_name (names (relative path))
