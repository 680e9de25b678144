-- Which folders a walk lists, whatever it answers.
use Rattle.std.specs.Prelude.{◌≡◌, ℕ, ◌≤◌, ◌⊎◌, List, ◌++◌, Bool, is_some, Contains, IsTrue}
use Rattle.std.specs.List.{IsDistinct}
use Rattle.std.specs.Str.{bytes_eq}
use Rattle.glob_match.specs.Pattern.{Pattern}
use Rattle.outside.specs.TreeMeaning.{TreeMeaning}
use Rattle.outside.specs.World.{Told}
use Rattle.standing.specs.Limits.{deepest}
use Rattle.tree_walk.specs.Depth.{depth}
use Rattle.tree_walk.specs.Starts.{IsStart, MayHold}

-- Only folders in which a walk begins or some include may have a match were listed. Where the tree tells its world, whose names
-- are known to be one component each, none was listed twice, and none that lies too deep.
pub record ListsFolders (include : List Pattern) (told : Bool) (old new : List (List ℕ)) : Type 0 where
  -- the folders that were listed meanwhile
  pub folders : List (List ℕ)
  pub goes_on : new ≡ folders ++ old
  pub each_met : (folder : List ℕ) → Contains folders folder → IsStart include folder ⊎ MayHold include folder
  pub each_once : IsTrue told → IsDistinct bytes_eq folders
  pub none_deep : IsTrue told → (folder : List ℕ) → Contains folders folder → depth folder ≤ deepest

-- over a tree that tells what it lists
abbrev pub ListsOnce : {T : Type 0} → TreeMeaning T → List Pattern → T → T → Type 0
ListsOnce meaning include old new = Told (ListsFolders include (is_some (meaning.world old))) (meaning.listed old) (meaning.listed new)
