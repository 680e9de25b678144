-- Paths that are added to others.
use Rattle.std.specs.Prelude.{◌≡◌, ℕ, ◌⊎◌, List, Contains}
use Rattle.std.specs.List.{Any}
use Rattle.glob_match.specs.Pattern.{Pattern}
use Rattle.outside.specs.Listing.{path_within}
use Rattle.outside.specs.declared.tree.Item.{Item}
use Rattle.outside.specs.declared.tree.Kind.{Kind}
use Rattle.outside.specs.declared.tree.Kind.TheVariants.{File, Folder}
use Rattle.standing.specs.Included.{IsIncluded}
use Rattle.tree_walk.specs.Starts.{MayHold}
use Rattle.tree_walk.specs.Walked.{Ascends}
use Rattle.tree_walk.specs.declared.findings.Findings.{Findings}

-- those of which this holds were added
pub record Gains (IsNew : List ℕ → Type 0) (before after : List (List ℕ)) : Type 0 where
  pub keeps : (path : List ℕ) → Contains before path → Contains after path
  pub adds : (path : List ℕ) → IsNew path → Contains after path
  pub only : (path : List ℕ) → Contains after path → Contains before path ⊎ IsNew path

-- the same paths in byte order, each once
pub record IsSorted (before after : List (List ℕ)) : Type 0 where
  pub ascends : Ascends after
  pub keeps : (path : List ℕ) → Contains before path → Contains after path
  pub only : (path : List ℕ) → Contains after path → Contains before path

-- the path is that of an item in the folder, of this kind
abbrev pub IsListed : Kind → List ℕ → List Item → List ℕ → Type 0
IsListed kind folder items path = Any (λ (item : Item). (item.kind ≡ kind) × (path ≡ path_within folder item.name)) items

-- of the items in a folder the files that are included were added, and the folders that may hold matches
pub record TakesItems (include exclude : List Pattern) (folder : List ℕ) (items : List Item) (before after : Findings) : Type 0 where
  pub paths : Gains (λ path. IsListed File folder items path × IsIncluded include exclude path) before.paths.items after.paths.items
  pub folders : Gains (λ path. IsListed Folder folder items path × MayHold include path) before.folders.items after.folders.items
  pub failed : after.failed ≡ before.failed
