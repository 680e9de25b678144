-- The steps that other processes may do. A path in use can't be taken, nor can one that would make a file a folder.
use mathlib.Core.Bool.{Bool-set}
use Rattle.std.specs.Coded.{×_prop, Unit-prop}
use Rattle.std.specs.Prelude.{ℕ, List, [], ◌∷◌, Bool, true, false, not, ◌||◌, ◌&&◌, Option, None, Some, ⊤, IsTrue}
use Rattle.std.specs.List.{list_any}
use Rattle.std.specs.Str.{bytes_eq}
use Rattle.outside.specs.Path.{is_path, is_below}
use Rattle.outside.specs.World.{Event, create, append, rename, remove, look, miss, unlisted, History, Names, names, has_name, was_created, World}

-- both paths can't be names of files at once
abbrev pub clashes : List ℕ → List ℕ → Bool
clashes path other = bytes_eq path other || (is_below path other || is_below other path)

abbrev pub is_free : Names → List ℕ → Bool
is_free names path = is_path path && not (list_any (λ name. clashes path name.0) names)

abbrev pub is_lawful : History → Event → Bool
is_lawful history (create file path) = not (was_created history file) && is_free (names history) path
is_lawful history (append file _) = has_name (names history) file
is_lawful history (rename file path) = has_name (names history) file && is_free (names history) path
is_lawful history (remove file) = has_name (names history) file
is_lawful history (look _) = false
is_lawful history (miss _) = false
is_lawful history (unlisted _) = false

-- A step of others comes where it is lawful, and a look at a file while it has a name.
abbrev pub may_come : History → Event → Bool
may_come history (create file path) = is_lawful history (create file path)
may_come history (append file more) = is_lawful history (append file more)
may_come history (rename file path) = is_lawful history (rename file path)
may_come history (remove file) = is_lawful history (remove file)
may_come history (look file) = has_name (names history) file
may_come history (miss _) = true
may_come history (unlisted _) = true

-- each event, the newest first, came where it may
abbrev pub IsLawful : History → Type 0
IsLawful [] = ⊤
IsLawful (event ∷ before) = IsTrue (may_come before event) × IsLawful before

pub IsLawful-prop : (history : History) → IsProp (IsLawful history)
IsLawful-prop [] = Unit-prop
IsLawful-prop (event ∷ before) = ×_prop (Bool-set _ _) (IsLawful-prop before)

abbrev pub TellsLawful : Option World → Type 0
TellsLawful None = ⊤
TellsLawful (Some world) = IsLawful world.history
