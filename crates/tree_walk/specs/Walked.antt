-- What a walk finds.
use Rattle.std.specs.Prelude.{◌≡◌, ℕ, ◌+◌, ◌<◌, ◌≤◌, ◌⊎◌, List, length, Contains}
use Rattle.std.specs.Cmp.Lexicographic.{slice_cmp}
use Rattle.std.specs.List.{IsDistinct}
use Rattle.std.specs.List.Sorted.{IsStrictlySortedBy}
use Rattle.std.specs.Ordering.{nat_cmp}
use Rattle.std.specs.Str.{bytes_eq}
use Rattle.glob_match.specs.Pattern.{Pattern}
use Rattle.outside.specs.TreeMeaning.{TreeMeaning}
use Rattle.outside.specs.World.{History, World, Told}
use Rattle.outside.specs.declared.tree.Kind.TheVariants.{File, Folder}
use Rattle.standing.specs.Limits.{deepest}
use Rattle.standing.specs.Pass.{IsOnWay, IsReachable}
use Rattle.tree_walk.specs.Calls.{ListsOnly, Counts, in_32_bits}
use Rattle.tree_walk.specs.Depth.{depth}
use Rattle.standing.specs.Included.{IsIncluded}
use Rattle.tree_walk.specs.Listings.{Failures, failures}
use Rattle.tree_walk.specs.Patterns.{Patterns, patterns}
use Rattle.tree_walk.specs.Starts.{IsStart, MayHold}
use Rattle.tree_walk.specs.Times.{WasOnce, WasAlways}
use Rattle.tree_walk.specs.declared.walk.Walk.{Walk}

-- in byte order, each once
abbrev pub Ascends : List (List ℕ) → Type 0
Ascends texts = IsStrictlySortedBy (slice_cmp nat_cmp) texts

-- a folder on the way to the path could not be listed
abbrev pub IsHidden : List (List ℕ) → List ℕ → Type 0
IsHidden unlisteds path = (folder : List ℕ) × Contains unlisteds folder × IsOnWay path folder

-- The walk comes to the folder: one for some include begins there, or it was a folder at some moment, and a match of some
-- include may lie in it.
abbrev pub IsMet : List Pattern → History → History → List ℕ → Type 0
IsMet include old new folder = IsStart include folder ⊎ (MayHold include folder × WasOnce Folder old new folder)

-- What a walk over a told world finds. `deep` are the folders that lie too deep, `unlisteds` those that could not be
-- listed.
pub record FindsIn (by : Patterns) (paths deep : List (List ℕ)) (failed : Failures) (old new : World) : Type 0 where
  pub handles : new.handles ≡ old.handles
  pub unlisteds : List (List ℕ)
  pub calls : ListsOnly unlisteds old.history new.history
  pub each_fails : failed.lists ≡ length unlisteds
  pub each_named : failed.names ≡ 0
  pub each_once : IsDistinct bytes_eq unlisteds
  pub each_met : (folder : List ℕ) → Contains unlisteds folder → (depth folder ≤ deepest) × IsMet by.include old.history new.history folder
  -- each path was that of a file
  pub are_files : (path : List ℕ) → Contains paths path → WasOnce File old.history new.history path
  pub none_left_out : (path : List ℕ) → IsIncluded by.include by.exclude path → IsReachable path → WasAlways File old.history new.history path → Contains paths path ⊎ IsHidden unlisteds path
  pub are_deep : (folder : List ℕ) → Contains deep folder → (deepest < depth folder) × IsMet by.include old.history new.history folder
  -- a path that lies too deep has a folder on its way that does
  pub no_deep_left_out : (path : List ℕ) → IsIncluded by.include by.exclude path → (IsReachable path → ⊥) → WasAlways File old.history new.history path
      → ((folder : List ℕ) × Contains deep folder × IsOnWay path folder) ⊎ IsHidden unlisteds path

-- What a walk answers over any tree.
pub record Finds {T : Type 0} (meaning : TreeMeaning T) (include exclude : List Pattern) (walk : Walk) (old new : T) : Type 0 where
  pub included : (path : List ℕ) → Contains walk.paths.items path → IsIncluded include exclude path
  pub ascends : Ascends walk.paths.items
  -- `failed` counts the lists that failed and the names that aren't UTF-8
  pub fails : ℕ
  pub unnamed : ℕ
  pub counts : Counts meaning fails unnamed old new
  pub failed : walk.failed ≡ in_32_bits (fails + unnamed)
  -- `deep` counts these folders
  pub deep_folders : List (List ℕ)
  pub deep_once : Ascends deep_folders
  pub deep : walk.deep ≡ in_32_bits (length deep_folders)
  pub each_deep : (folder : List ℕ) → Contains deep_folders folder → IsStart include folder ⊎ MayHold include folder
  pub starts : (folder : List ℕ) → IsStart include folder → deepest < depth folder → Contains deep_folders folder
  -- what a tree that tells its history was found to have
  pub world : Told (FindsIn (patterns include exclude) walk.paths.items deep_folders (failures fails unnamed)) (meaning.world old) (meaning.world new)
