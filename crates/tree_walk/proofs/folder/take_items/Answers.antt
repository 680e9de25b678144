use Rattle.tree_walk.proofs.Entering.{takes_more}
use Rattle.tree_walk.proofs.Lists.{one_more}
use Rattle.tree_walk.proofs.folder.take_items.Goals as goal

pub loop-item-preserved : goal.loop-item-preserved
loop-item-preserved c =
    rw (one_more (λ _. Unit {0}) c.args.items.now c.loop-item.item-index c.item-item.result c.loop-item-test.true c.item-item.is)
    (takes_more c.args.globs.now.include.now c.args.globs.now.exclude.now c.args.folder.now _ _ c.args.found.now c.loop-item.found c.take_item.new.found c.loop-item.invariant c.in_ok-take_item.ensures)
