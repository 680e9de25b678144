use Rattle.std.proofs.Common.{◌≡◌, sym, true, false, length, arith}
use Rattle.std.specs.List.{list_any}
use Rattle.graph_core.specs.Wiring.{targets_of}
use Rattle.graph_core.specs.Inner.Reach.{lists_of, is_past}
use Rattle.graph_core.specs.Faults.{LeadsPast}
use Rattle.graph_core.proofs.Checks.{length_lists, target_lists, leads_past, leads_not, below_more, leads_within}
use Rattle.graph_core.proofs.build.least_past.Goals as goal

pub returns-then-leads_past : goal.returns-then-leads_past
returns-then-leads_past c =
    let edges = lists_of c.args.edges.now in
    let targets = target_lists c.args.edges.now c.loop-node.node c.index-edges-node.result c.loop-node-test.true c.index-edges-node.is in
    let past : list_any (is_past (length (lists_of c.args.edges.now))) (targets_of (lists_of c.args.edges.now) c.loop-node.node) ≡ true =
    rw (length_lists c.args.edges.now, targets, ← c.deref.ensures.value) (sym c.if-leads_past.ensures) in
    record { holds = leads_past (lists_of c.args.edges.now) c.loop-node.node past; least = c.loop-node.invariant }

pub loop-node-preserved : goal.loop-node-preserved
loop-node-preserved c =
    let targets = target_lists c.args.edges.now c.loop-node.node c.index-edges-node.result c.loop-node-test.true c.index-edges-node.is in
    let no : list_any (is_past (length (lists_of c.args.edges.now))) (targets_of (lists_of c.args.edges.now) c.loop-node.node) ≡ false =
    rw (length_lists c.args.edges.now, targets, ← c.deref.ensures.value) (sym c.if-leads_past.ensures) in
    below_more (LeadsPast (lists_of c.args.edges.now)) c.loop-node.node c.loop-node.invariant (leads_not (lists_of c.args.edges.now) c.loop-node.node no)

pub returns : goal.returns
returns c v past =
    let l = leads_within (lists_of c.args.edges.now) v past in
    c.loop-node.invariant v (let m = length_lists c.args.edges.now in omega arith) past
