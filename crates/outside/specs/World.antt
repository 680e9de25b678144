-- The world of log files, as its history. Files only grow: a removed one has no name and keeps its bytes.
use Rattle.std.specs.Prelude.{ℕ, List, [], ◌∷◌, ◌++◌, Bool, false, not, ◌==◌, ◌||◌, if◌then◌else◌, Option, None, Some, option_map, find, filter, ⊤}
use Rattle.std.specs.List.{list_any}
use Rattle.std.specs.Str.{bytes_eq}

-- The first four are steps of other processes, the last three come from calls of the agent's own. A file is known
-- by its number.
pub data Event : Type 0 where
  create : ℕ → List ℕ → Event
  append : ℕ → List ℕ → Event
  rename : ℕ → List ℕ → Event
  remove : ℕ → Event
  -- the file was opened
  look : ℕ → Event
  -- the path could not be opened
  miss : List ℕ → Event
  -- the folder could not be listed
  unlisted : List ℕ → Event

-- the newest event first
abbrev pub History : Type 0
History = List Event

-- all that was appended to a file
abbrev pub bytes : History → ℕ → List ℕ
bytes [] file = []
bytes (create _ _ ∷ before) file = bytes before file
bytes (append other more ∷ before) file = bytes before file ++ (if other == file then more else [])
bytes (rename _ _ ∷ before) file = bytes before file
bytes (remove _ ∷ before) file = bytes before file
bytes (look _ ∷ before) file = bytes before file
bytes (miss _ ∷ before) file = bytes before file
bytes (unlisted _ ∷ before) file = bytes before file

-- paths with their files, each file at most once
abbrev pub Names : Type 0
Names = List (List ℕ × ℕ)

abbrev pub without : ℕ → Names → Names
without file names = filter (λ name. not (name.1 == file)) names

abbrev pub names : History → Names
names [] = []
names (create file path ∷ before) = (path, file) ∷ names before
names (append _ _ ∷ before) = names before
names (rename file path ∷ before) = (path, file) ∷ without file (names before)
names (remove file ∷ before) = without file (names before)
names (look _ ∷ before) = names before
names (miss _ ∷ before) = names before
names (unlisted _ ∷ before) = names before

-- the file that a path names
abbrev pub file_at : Names → List ℕ → Option ℕ
file_at names path = option_map (λ name. name.1) (find (λ name. bytes_eq name.0 path) names)

abbrev pub has_name : Names → ℕ → Bool
has_name names file = list_any (λ name. name.1 == file) names

abbrev pub was_created : History → ℕ → Bool
was_created [] file = false
was_created (create other _ ∷ before) file = other == file || was_created before file
was_created (append _ _ ∷ before) file = was_created before file
was_created (rename _ _ ∷ before) file = was_created before file
was_created (remove _ ∷ before) file = was_created before file
was_created (look _ ∷ before) file = was_created before file
was_created (miss _ ∷ before) file = was_created before file
was_created (unlisted _ ∷ before) file = was_created before file

-- what a tree tells: the history, and for each open handle the file that it stands for
pub record World : Type 0 where
  pub history : History
  pub handles : List (ℕ × ℕ)

-- What is told goes on by the change. What isn't told stays so.
abbrev pub Told : {W : Type 0} → (W → W → Type 0) → Option W → Option W → Type 0
Told change None None = ⊤
Told change None (Some _) = ⊥
Told change (Some _) None = ⊥
Told change (Some old) (Some new) = change old new
