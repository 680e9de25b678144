-- The folders on a path: the working folder, which is the empty text, or the root, and the path's first names, fewer
-- than all.
use Rattle.std.specs.Prelude.{◌≡◌, ℕ, ◌<◌, List, [], ◌∷◌, ◌++◌, length, take, if◌then◌else◌}
use Rattle.std.specs.List.{join_with_byte}
use Rattle.glob_match.specs.Path.{names, is_absolute, relative}

abbrev pub root_of : List ℕ → List ℕ
root_of path = if is_absolute path then 47 ∷ [] else []

-- the folder of the path's first names
abbrev pub folder_of : List ℕ → ℕ → List ℕ
folder_of path count = root_of path ++ join_with_byte 47 (take count (names (relative path)))

pub record IsFolderOn (path folder : List ℕ) : Type 0 where
  pub count : ℕ
  pub fewer : count < length (names (relative path))
  pub is : folder ≡ folder_of path count
