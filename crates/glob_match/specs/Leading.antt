-- How folders lead to the paths that a pattern matches.
use Rattle.std.specs.Prelude.{ℕ, List}
use Rattle.std.specs.Str.{IsUtf8}
use Rattle.glob_match.specs.Folder.{IsFolderOn}
use Rattle.glob_match.specs.GlobMatch.{MatchesPath, ListsFolder}
use Rattle.glob_match.specs.Pattern.{Pattern}
use Rattle.glob_match.specs.Start.{start}

-- Whoever begins in the start and goes into each folder that may hold matches comes to every match.
pub record LeadsToMatches (pattern : Pattern) : Type 0 where
  pub from_start : (path : List ℕ) → IsUtf8 path → MatchesPath pattern path → IsFolderOn path (start pattern)
  pub by_folders : (path folder : List ℕ) → MatchesPath pattern path → IsFolderOn path folder → ListsFolder pattern folder
