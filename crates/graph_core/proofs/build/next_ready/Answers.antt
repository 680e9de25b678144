use Rattle.std.proofs.Common.{sym, length}
use Rattle.graph_core.specs.Closing.{next_ready}
use Rattle.graph_core.specs.Inner.Reach.{lists_of}
use Rattle.graph_core.proofs.Checks.{next_more}
use Rattle.graph_core.proofs.build.next_ready.Goals as goal

pub loop-node-preserved : goal.loop-node-preserved
loop-node-preserved c =
    next_more (lists_of c.args.edges.now) c.args.listed.now c.loop-node.node (length c.args.edges.now) (next_ready (lists_of c.args.edges.now) c.args.listed.now)
    c.loop-node-test.true (sym c.if-is_next.ensures) c.loop-node.invariant
