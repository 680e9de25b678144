-- The folders in which a walk looks for the paths that are read.
use Rattle.std.specs.Prelude.{◌≡◌, ℕ, List}
use Rattle.std.specs.List.{Any}
use Rattle.glob_match.specs.GlobMatch.{ListsFolder}
use Rattle.glob_match.specs.Pattern.{Pattern}
use Rattle.glob_match.specs.Start.{start}

-- the walk for some include begins in the folder
abbrev pub IsStart : List Pattern → List ℕ → Type 0
IsStart include folder = Any (λ (glob : Pattern). folder ≡ start glob) include

-- a match of some include may lie in the folder, or below it
abbrev pub MayHold : List Pattern → List ℕ → Type 0
MayHold include folder = Any (λ (glob : Pattern). ListsFolder glob folder) include
