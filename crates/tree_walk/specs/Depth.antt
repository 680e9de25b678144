-- How deep a folder lies.
use Rattle.std.specs.Prelude.{ℕ, ◌+◌, min, List, [], ◌∷◌, length}
use Rattle.outside.specs.Path.{components, relative}
use Rattle.standing.specs.Limits.{deepest}

abbrev pub count_of : List ℕ → ℕ
count_of [] = 0
count_of (byte ∷ rest) = length (components (byte ∷ rest))

-- the number of components of the folder's path, none of the working folder and of the root
abbrev pub depth : List ℕ → ℕ
depth folder = count_of (relative folder)

-- the depth, or the first one that is too much
abbrev pub level_of : List ℕ → ℕ
level_of folder = min (depth folder) (deepest + 1)
