use Rattle.std.proofs.Common.{◌≡◌, sym, true, not, ◌||◌, length}
use Rattle.graph_core.specs.Wiring.{calls_node}
use Rattle.graph_core.specs.Closing.{is_listed, is_ready}
use Rattle.graph_core.specs.Inner.Reach.{lists_of}
use Rattle.graph_core.proofs.Checks.{target_lists, ready_more}
use Rattle.graph_core.proofs.build.is_ready.Goals as goal

pub loop-caller-preserved : goal.loop-caller-preserved
loop-caller-preserved c =
    let targets = target_lists c.args.edges.now c.loop-caller.caller c.index-edges-caller.result c.loop-caller-test.true c.index-edges-caller.is in
    let settled : (not (calls_node (lists_of c.args.edges.now) c.loop-caller.caller c.args.node) || is_listed c.args.listed.now c.loop-caller.caller) ≡ true =
    rw (targets, ← c.deref.ensures.value) (sym c.if-not-is_settled.ensures) in
    ready_more (lists_of c.args.edges.now) c.args.listed.now c.args.node c.loop-caller.caller (length c.args.edges.now) (is_ready (lists_of c.args.edges.now) c.args.listed.now c.args.node)
    c.loop-caller-test.true settled c.loop-caller.invariant
