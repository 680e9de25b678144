use Rattle.std.proofs.Common.{rules, ◌≡◌, ◌<◌, length, refl, ◌∙◌}
use Rattle.graph_core.specs.Wiring.{wiring_of, edges_of}
use Rattle.graph_core.specs.Traces.{network_of}
use Rattle.graph_core.specs.Inner.Walk.{done}
use Rattle.graph_core.proofs.Delivering.{first_leads, rest_leads, serve_out, serve_call, length_edges, nil_from_drop}
use Rattle.graph_core.proofs.walk.+deliver_all.Goals as goal

pub loop-to-init : goal.loop-to-init
loop-to-init g t c = record { kept = refl; leads = c.in_ok-queue.ensures.leads; walks = λ _ _ w. w }

pub loop-to-preserved-in-Continue-branch-2 : goal.loop-to-preserved-in-Continue-branch-2
loop-to-preserved-in-Continue-branch-2 g t c = record {
  kept = c.loop-to.invariant.kept;
  leads = rest_leads (edges_of (wiring_of c.args.graph.now)) c.args.node (c.in-Some.to, c.in-Some.item) c.loop-to.queue.items c.pop_front.new.self.items c.in-Some.ensures.items c.loop-to.invariant.leads;
  walks = λ t p w. c.loop-to.invariant.walks t p
      (serve_out (network_of g.O.Step.behavior c.args.graph.now) c.loop-to.states.items t c.loop-to.out.items c.push.new.self.items p c.in-Some.to c.in-Some.item
      c.loop-to.queue.items c.pop_front.new.self.items c.in-Some.ensures.items c.in-Out.is c.in_ok-push-in-Out.ensures.items w);
}

pub step_node-requires-clause-node : goal.step_node-requires-clause-node
step_node-requires-clause-node g t c =
    let l = first_leads (edges_of (wiring_of c.args.graph.now)) c.args.node c.in-Node.next c.in-Some.to c.in-Some.item c.loop-to.queue.items c.pop_front.new.self.items c.in-Some.ensures.items c.in-Node.is c.loop-to.invariant.leads in
    rw (← length_edges c.args.graph.now) l.0

pub deliver_all-requires : goal.deliver_all-requires
deliver_all-requires g t c κs within =
    let l = first_leads (edges_of (wiring_of c.args.graph.now)) c.args.node c.in-Node.next c.in-Some.to c.in-Some.item c.loop-to.queue.items c.pop_front.new.self.items c.in-Some.ensures.items c.in-Node.is c.loop-to.invariant.leads in
    let inside : c.in-Node.next < length c.args.graph.now = rw (← length_edges c.args.graph.now) l.0 in
    let kept : length c.step_node.new.states.items ≡ length c.args.graph.now = c.step_node.ensures.kept ∙ (c.loop-to.invariant.kept ∙ c.requires.states) in
    let falls = l.1 in
    (search rules, (within.0, (within.1.0, (within.1.1, (inside, kept)))))

pub loop-to-preserved : goal.loop-to-preserved
loop-to-preserved g t c = record {
  kept = c.deliver_all.ensures.kept ∙ (c.step_node.ensures.kept ∙ c.loop-to.invariant.kept);
  leads = rest_leads (edges_of (wiring_of c.args.graph.now)) c.args.node (c.in-Some.to, c.in-Some.item) c.loop-to.queue.items c.pop_front.new.self.items c.in-Some.ensures.items c.loop-to.invariant.leads;
  walks = λ t p w. c.loop-to.invariant.walks t p
      (serve_call (network_of g.O.Step.behavior c.args.graph.now) c.loop-to.states.items c.deliver_all.new.states.items t c.loop-to.out.items c.deliver_all.new.out.items p c.in-Node.next c.in-Some.to c.in-Some.item
      c.loop-to.queue.items c.pop_front.new.self.items _ c.step_node.new.states.items c.in-Some.ensures.items c.in-Node.is c.in_ok-step_node-in-Node.ensures.state c.in_ok-step_node-in-Node.ensures.said
      c.in_ok-deliver_all-in-Node.ensures.walks w);
}

pub returns-clause-walks : goal.returns-clause-walks
returns-clause-walks g t c =
    let e = nil_from_drop c.loop-to.queue.items c.pop_front.new.self.items c.in_default.ensures.items c.in_default.ensures.rest in
    rw (← c.in_ok-queue.ensures.items) (c.loop-to.invariant.walks c.loop-to.states.items c.loop-to.out.items (rw e done))
