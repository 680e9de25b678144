-- How far a walk has come that has listed all folders above a level.
use Rattle.std.specs.Prelude.{◌≡◌, ℕ, ◌+◌, ◌<◌, ◌≤◌, ◌⊎◌, List, length, Contains}
use Rattle.std.specs.List.{IsDistinct}
use Rattle.std.specs.Str.{bytes_eq, IsUtf8}
use Rattle.glob_match.specs.Folder.{folder_of}
use Rattle.glob_match.specs.GlobMatch.{MatchesPath}
use Rattle.glob_match.specs.Path.{names, relative}
use Rattle.glob_match.specs.Pattern.{Pattern}
use Rattle.glob_match.specs.Start.{start}
use Rattle.outside.specs.TreeMeaning.{TreeMeaning}
use Rattle.outside.specs.World.{World, Told}
use Rattle.outside.specs.declared.tree.Kind.TheVariants.{File, Folder}
use Rattle.tree_walk.specs.Calls.{ListsOnly, Counts, in_32_bits}
use Rattle.tree_walk.specs.Depth.{depth}
use Rattle.standing.specs.Included.{IsIncluded}
use Rattle.tree_walk.specs.Listings.{Failures, failures}
use Rattle.tree_walk.specs.Patterns.{Patterns}
use Rattle.tree_walk.specs.Starts.{MayHold}
use Rattle.tree_walk.specs.Times.{WasOnce, WasAlways}
use Rattle.tree_walk.specs.Walked.{IsMet, IsHidden}
use Rattle.tree_walk.specs.declared.findings.Findings.{Findings}

-- over a told world
pub record ReachesIn (by : Patterns) (level : ℕ) (failed : Failures) (found : Findings) (old new : World) : Type 0 where
  pub handles : new.handles ≡ old.handles
  pub unlisteds : List (List ℕ)
  pub calls : ListsOnly unlisteds old.history new.history
  pub each_fails : failed.lists ≡ length unlisteds
  pub each_named : failed.names ≡ 0
  pub each_once : IsDistinct bytes_eq unlisteds
  pub each_met : (folder : List ℕ) → Contains unlisteds folder → (depth folder < level) × IsMet by.include old.history new.history folder
  pub are_files : (path : List ℕ) → Contains found.paths.items path → WasOnce File old.history new.history path
  pub are_folders : (folder : List ℕ) → Contains found.folders.items folder → (depth folder ≡ level) × WasOnce Folder old.history new.history folder
  -- the folder of this level on the way to a match was found
  pub leads : (glob : Pattern) (path : List ℕ) → Contains by.include glob → IsUtf8 path → MatchesPath glob path → WasAlways File old.history new.history path
      → depth (start glob) < level → level < length (names (relative path)) → Contains found.folders.items (folder_of path level) ⊎ IsHidden unlisteds path
  pub finds : (path : List ℕ) → IsIncluded by.include by.exclude path → WasAlways File old.history new.history path → length (names (relative path)) ≤ level
      → Contains found.paths.items path ⊎ IsHidden unlisteds path

-- over any tree
pub record Reaches {T : Type 0} (meaning : TreeMeaning T) (by : Patterns) (level : ℕ) (found : Findings) (old new : T) : Type 0 where
  pub fails : ℕ
  pub unnamed : ℕ
  pub counts : Counts meaning fails unnamed old new
  pub failed : in_32_bits found.failed ≡ in_32_bits (fails + unnamed)
  pub included : (path : List ℕ) → Contains found.paths.items path → IsIncluded by.include by.exclude path
  pub may_hold : (folder : List ℕ) → Contains found.folders.items folder → MayHold by.include folder
  pub world : Told (ReachesIn by level (failures fails unnamed) found) (meaning.world old) (meaning.world new)
