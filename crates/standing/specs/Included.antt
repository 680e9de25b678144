-- The paths that are read.
use Rattle.std.specs.Prelude.{ℕ, List}
use Rattle.std.specs.List.{Any}
use Rattle.std.specs.Str.{IsUtf8}
use Rattle.glob_match.specs.GlobMatch.{MatchesPath}
use Rattle.glob_match.specs.Pattern.{Pattern}
use Rattle.standing.specs.OwnNames.{IsOwnName}

abbrev pub MatchesAny : List Pattern → List ℕ → Type 0
MatchesAny globs path = Any (λ (glob : Pattern). MatchesPath glob path) globs

-- Some include matches the path, no exclude does, and it isn't one of the agent's own files.
pub record IsIncluded (include exclude : List Pattern) (path : List ℕ) : Type 0 where
  pub text : IsUtf8 path
  pub matched : MatchesAny include path
  pub not_excluded : MatchesAny exclude path → ⊥
  pub not_own : IsOwnName path → ⊥
