use Rattle.std.proofs.Common.{take}
use Rattle.tree_walk.specs.Inner.Gained.{TakesItems}
use Rattle.tree_walk.proofs.folder.take_items.Given as goal

abbrev pub invariant-loop-item : goal.invariant-loop-item
invariant-loop-item l = TakesItems l.globs.include.now l.globs.exclude.now l.folder (take l.item-index l.items) l.fn.found l.found
