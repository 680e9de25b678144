-- Paths: components joined by slashes, with a slash before them where the path is absolute.
use Rattle.std.specs.Prelude.{ℕ, nat_eq, List, [], ◌∷◌, ◌++◌, Bool, not, ◌==◌, ◌||◌, ◌&&◌, if◌then◌else◌, codes}
use Rattle.std.specs.List.{list_all, starts_with}
use Rattle.std.specs.Str.{bytes_eq}

abbrev pub slash : ℕ
slash = 47

-- a byte in front of the first component
abbrev pub in_front : ℕ → List (List ℕ) → List (List ℕ)
in_front byte [] = (byte ∷ []) ∷ []
in_front byte (first ∷ others) = (byte ∷ first) ∷ others

-- the parts between the slashes
abbrev pub components : List ℕ → List (List ℕ)
components [] = [] ∷ []
components (byte ∷ rest) = if byte == slash then [] ∷ components rest else in_front byte (components rest)

-- the path without the slash that makes it absolute
abbrev pub relative : List ℕ → List ℕ
relative [] = []
relative (byte ∷ rest) = if byte == slash then rest else byte ∷ rest

abbrev pub is_component : List ℕ → Bool
is_component part = not (bytes_eq part [] || bytes_eq part (codes ".") || bytes_eq part (codes ".."))

abbrev pub is_path : List ℕ → Bool
is_path path = list_all is_component (components (relative path))

-- one name of a folder: a component, which has no slash
abbrev pub is_name : List ℕ → Bool
is_name name = is_component name && list_all (λ byte. not (byte == slash)) name

-- the path lies in the folder, at any depth
abbrev pub is_below : List ℕ → List ℕ → Bool
is_below folder path = starts_with nat_eq path (folder ++ slash ∷ [])
