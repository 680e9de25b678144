-- What the lists of some folders add to what was found.
use Rattle.std.specs.Prelude.{◌≡◌, ℕ, ◌+◌, ◌⊎◌, List, [], length, Contains, IsTrue}
use Rattle.std.specs.List.{IsDistinct}
use Rattle.std.specs.Str.{bytes_eq}
use Rattle.outside.specs.Listing.{path_within}
use Rattle.outside.specs.Path.{is_name}
use Rattle.outside.specs.TreeMeaning.{TreeMeaning}
use Rattle.outside.specs.World.{World, Told}
use Rattle.outside.specs.declared.tree.Kind.TheVariants.{File, Folder}
use Rattle.tree_walk.specs.Calls.{ListsOnly, Counts, in_32_bits}
use Rattle.tree_walk.specs.Depth.{level_of}
use Rattle.tree_walk.specs.Inner.FoundAt.{FoundAt, found_at}
use Rattle.tree_walk.specs.Inner.Gained.{Gains, IsSorted}
use Rattle.tree_walk.specs.Listings.{Listings, failures, listings}
use Rattle.tree_walk.specs.Patterns.{Patterns}
use Rattle.standing.specs.Included.{IsIncluded}
use Rattle.tree_walk.specs.Starts.{MayHold}
use Rattle.tree_walk.specs.Times.{WasOnce, WasAlways}
use Rattle.tree_walk.specs.declared.findings.Findings.{Findings}

-- one component more than one of the folders
pub record IsChild (folders : List (List ℕ)) (path : List ℕ) : Type 0 where
  pub folder : List ℕ
  pub is_one : Contains folders folder
  pub name : List ℕ
  pub proper : IsTrue (is_name name)
  pub is : path ≡ path_within folder name

-- over a told world
pub record EntersIn (by : Patterns) (listed : Listings) (before after : Findings) (old new : World) : Type 0 where
  pub handles : new.handles ≡ old.handles
  pub unlisteds : List (List ℕ)
  pub calls : ListsOnly unlisteds old.history new.history
  pub each_fails : listed.failed.lists ≡ length unlisteds
  pub each_named : listed.failed.names ≡ 0
  pub among : (folder : List ℕ) → Contains unlisteds folder → Contains listed.folders folder
  pub once : IsDistinct bytes_eq listed.folders → IsDistinct bytes_eq unlisteds
  pub are_files : (path : List ℕ) → Contains after.paths.items path → Contains before.paths.items path ⊎ WasOnce File old.history new.history path
  pub are_folders : (path : List ℕ) → Contains after.folders.items path → Contains before.folders.items path ⊎ (IsChild listed.folders path × WasOnce Folder old.history new.history path)
  pub finds_files : (folder name : List ℕ) → Contains listed.folders folder → IsTrue (is_name name) → IsIncluded by.include by.exclude (path_within folder name)
      → WasAlways File old.history new.history (path_within folder name) → Contains after.paths.items (path_within folder name) ⊎ Contains unlisteds folder
  pub finds_folders : (folder name : List ℕ) → Contains listed.folders folder → IsTrue (is_name name) → MayHold by.include (path_within folder name)
      → WasAlways Folder old.history new.history (path_within folder name) → Contains after.folders.items (path_within folder name) ⊎ Contains unlisteds folder

-- over any tree
pub record Enters {T : Type 0} (meaning : TreeMeaning T) (by : Patterns) (folders : List (List ℕ)) (before after : FoundAt T) : Type 0 where
  pub fails : ℕ
  pub unnamed : ℕ
  pub counts : Counts meaning fails unnamed before.tree after.tree
  pub failed : in_32_bits after.found.failed ≡ in_32_bits (before.found.failed + (fails + unnamed))
  pub keeps_paths : (path : List ℕ) → Contains before.found.paths.items path → Contains after.found.paths.items path
  pub keeps_folders : (path : List ℕ) → Contains before.found.folders.items path → Contains after.found.folders.items path
  pub included : (path : List ℕ) → Contains after.found.paths.items path → Contains before.found.paths.items path ⊎ IsIncluded by.include by.exclude path
  pub may_hold : (path : List ℕ) → Contains after.found.folders.items path → Contains before.found.folders.items path ⊎ MayHold by.include path
  pub world : Told (EntersIn by (listings folders (failures fails unnamed)) before.found after.found) (meaning.world before.tree) (meaning.world after.tree)

-- Of the folders that were found and the starts of this depth each was listed, in byte order and once. What is found then
-- are folders of the next depth.
pub record EntersLevel {T : Type 0} (meaning : TreeMeaning T) (by : Patterns) (starts : List (List ℕ)) (level : ℕ) (before after : FoundAt T) : Type 0 where
  pub due : List (List ℕ)
  pub with_starts : Gains (λ folder. Contains starts folder × (level_of folder ≡ level)) before.found.folders.items due
  pub folders : List (List ℕ)
  pub sorted : IsSorted due folders
  pub emptied : Findings
  pub same_paths : emptied.paths.items ≡ before.found.paths.items
  pub no_folders : emptied.folders.items ≡ []
  pub same_failed : emptied.failed ≡ before.found.failed
  pub enters : Enters meaning by folders (found_at emptied before.tree) after
