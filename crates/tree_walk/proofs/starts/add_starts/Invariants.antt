use Rattle.std.proofs.Common.{◌≡◌, take}
use Rattle.std.specs.Prelude.{Contains}
use Rattle.tree_walk.specs.Depth.{level_of}
use Rattle.tree_walk.specs.Inner.Gained.{Gains}
use Rattle.tree_walk.proofs.starts.add_starts.Given as goal

abbrev pub invariant-loop-start : goal.invariant-loop-start
invariant-loop-start l = Gains (λ folder. Contains (take l.start-index l.starts) folder × (level_of folder ≡ l.level)) l.fn.folders.items l.folders.items
