use Rattle.std.proofs.Common.{take}
use Rattle.std.specs.List.{Any}
use Rattle.glob_match.specs.GlobMatch.{ListsFolder}
use Rattle.glob_match.specs.Pattern.{Pattern}
use Rattle.tree_walk.proofs.globs.Globs.may_hold.Given as goal

abbrev pub invariant-loop-glob : goal.invariant-loop-glob
invariant-loop-glob l = Any (λ (glob : Pattern). ListsFolder glob l.folder) (take l.glob-index l.self.include.now) → ⊥
