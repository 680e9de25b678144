use Rattle.std.proofs.Common.{◌≡◌, map, take}
use Rattle.std.specs.Prelude.{Contains}
use Rattle.glob_match.specs.Leading.{LeadsToMatches}
use Rattle.glob_match.specs.Pattern.{Pattern}
use Rattle.glob_match.specs.Start.{start}
use Rattle.tree_walk.proofs.starts.starts.Given as goal

abbrev pub invariant-loop-glob : goal.invariant-loop-glob
invariant-loop-glob l = record {
  starts : l.starts.items ≡ map start (take l.glob-index l.include);
  leads : (glob : Pattern) → Contains (take l.glob-index l.include) glob → LeadsToMatches glob;
}
