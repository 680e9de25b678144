use Rattle.whole_runs.proofs.Adding.{closings_more, closings_end}
use Rattle.whole_runs.proofs.roots.add_closings.Goals as goal

pub loop-node-preserved : goal.loop-node-preserved
loop-node-preserved g c = λ earlier e.
    closings_more earlier c.args.order.now c.loop-node.node-index c.loop-node.calls.items c.add.new.calls.items c.loop-node-test.true (c.loop-node.invariant earlier e) c.in_ok-add.ensures

pub returns : goal.returns
returns g c = λ earlier e. closings_end earlier c.args.order.now c.loop-node.node-index c.loop-node.calls.items c.loop-node-test.false (c.loop-node.invariant earlier e)
