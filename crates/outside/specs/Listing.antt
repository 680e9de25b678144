-- What `list` answers, and what it adds to the history.
use Rattle.std.specs.Prelude.{◌≡◌, ℕ, List, [], ◌∷◌, ◌++◌, Bool, false, ◌||◌, if◌then◌else◌, Option, None, Some, is_some, option_map, Result, Ok, Err, map, IsTrue, ◌↔◌, Contains}
use Rattle.std.specs.List.{list_any, IsDistinct}
use Rattle.std.specs.Str.{bytes_eq}
use Rattle.outside.specs.Count.{raised}
use Rattle.outside.specs.Path.{slash, is_name, is_below}
use Rattle.outside.specs.World.{unlisted, History, Names, names, file_at, World}
use Rattle.outside.specs.Moment.{Moves, AtOneMoment}
use Rattle.outside.specs.declared.fault.CallFault.{CallFault}
use Rattle.outside.specs.declared.fault.CallFault.TheVariants.{Failed, Memory}
use Rattle.outside.specs.declared.tree.Item.{Item}
use Rattle.outside.specs.declared.tree.Kind.{Kind}
use Rattle.outside.specs.declared.tree.Kind.TheVariants.{File, Folder}
use Rattle.outside.specs.declared.tree.Listed.{Listed}
use Rattle.outside.specs.declared.tree.Listed.TheVariants.{Items, Gone}

-- Folders are those on the way to some file, the working folder and the root.
abbrev pub is_folder : Names → List ℕ → Bool
is_folder names path = bytes_eq path [] || (bytes_eq path (slash ∷ []) || list_any (λ name. is_below path name.0) names)

abbrev pub kind_at : Names → List ℕ → Option Kind
kind_at names path = if is_some (file_at names path) then Some File else if is_folder names path then Some Folder else None

-- the path of a name in a folder
abbrev pub path_within : List ℕ → List ℕ → List ℕ
path_within folder name =
    if bytes_eq folder [] then name else if bytes_eq folder (slash ∷ []) then slash ∷ name else folder ++ slash ∷ name

-- the items are the names in the folder, each once
pub record IsListing (folder : List ℕ) (items : List Item) (history : History) : Type 0 where
  pub folder_is_there : IsTrue (is_folder (names history) folder)
  pub each : (name : List ℕ) (kind : Kind) → IsTrue (is_name name) → (kind_at (names history) (path_within folder name) ≡ Some kind) ↔ Contains items (record { name = name; kind = kind })
  pub named : (item : Item) → Contains items item → IsTrue (is_name item.name)
  pub once : IsDistinct bytes_eq (map (λ item. item.name) items)

abbrev pub ListsWithin : List ℕ → Result Listed CallFault → History → History → Type 0
ListsWithin folder (Ok (Items items unnamed)) old new = (unnamed ≡ 0) × AtOneMoment [] (IsListing folder items.items) old new
ListsWithin folder (Ok Gone) old new = AtOneMoment [] (λ history. is_folder (names history) folder ≡ false) old new
ListsWithin folder (Err Failed) old new = AtOneMoment (unlisted folder ∷ []) (λ _. Unit {0}) old new
ListsWithin folder (Err Memory) old new = Moves old new

pub record Lists (folder : List ℕ) (result : Result Listed CallFault) (old new : World) : Type 0 where
  pub handles : new.handles ≡ old.handles
  pub history : ListsWithin folder result old.history new.history

abbrev pub nameless_after : Result Listed CallFault → ℕ → ℕ
nameless_after (Ok (Items _ unnamed)) count = raised count unnamed
nameless_after (Ok Gone) count = count
nameless_after (Err _) count = count

-- the folder, whatever was answered but that memory ran out
abbrev pub newly_listed : List ℕ → Result Listed CallFault → List (List ℕ)
newly_listed folder (Ok _) = folder ∷ []
newly_listed folder (Err Failed) = folder ∷ []
newly_listed folder (Err Memory) = []

-- it was put in front
abbrev pub listed_after : List ℕ → Result Listed CallFault → Option (List (List ℕ)) → Option (List (List ℕ))
listed_after folder result listed = option_map (λ folders. newly_listed folder result ++ folders) listed
