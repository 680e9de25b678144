use Rattle.std.proofs.Common.{take}
use Rattle.std.specs.List.{Any}
use Rattle.glob_match.specs.GlobMatch.{MatchesPath}
use Rattle.glob_match.specs.Pattern.{Pattern}
use Rattle.tree_walk.proofs.globs.match_any.Given as goal

abbrev pub invariant-loop-glob : goal.invariant-loop-glob
invariant-loop-glob l = Any (λ (glob : Pattern). MatchesPath glob l.path) (take l.glob-index l.globs) → ⊥
