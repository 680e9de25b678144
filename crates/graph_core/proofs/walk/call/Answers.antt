use Rattle.std.proofs.Common.{◌∙◌, ap, refl, subst}
use Rattle.std.specs.Prelude.{Some}
use Rattle.std.proofs.lemmas.Result.{IfOk-weaker}
use Rattle.graph_core.specs.declared.Target.{Target}
use Rattle.graph_core.specs.Wiring.{wiring_of, edges_of}
use Rattle.graph_core.specs.Traces.{network_of}
use Rattle.graph_core.specs.Inner.Walk.{LeadsOn}
use Rattle.graph_core.proofs.Delivering.{length_edges, serve_one, serve_single, serve_last}
use Rattle.graph_core.proofs.walk.call.Goals as goal

pub follow-init : goal.follow-init
follow-init g c = record { empty = c.requires.empty; within = c.requires.node; kept = refl; walks = λ t p w. w }

pub step_node-requires : goal.step_node-requires
step_node-requires g c = record { node = c.follow.invariant.within; states = c.follow.invariant.kept ∙ c.requires.states; empty = c.follow.invariant.empty }

pub follow-preserved : goal.follow-preserved
follow-preserved g c =
    let edges = edges_of (wiring_of c.args.graph.now) in
    let lead : LeadsOn edges c.follow.node c.in-Some.to = c.in-Some.ensures.leads in
    let next = subst (λ (t : Target). LeadsOn edges c.follow.node t) c.in-Node.is lead in
    record {
      empty = c.in-Some.ensures.taken;
      within = rw (← length_edges c.args.graph.now) next.0;
      kept = c.step_node.ensures.kept ∙ c.follow.invariant.kept;
      walks = λ t p w. c.follow.invariant.walks t p
          (serve_single (network_of g.O.Step.behavior c.args.graph.now) c.follow.states.items t c.step_node.new.states.items c.follow.out.items p c.follow.node c.in-Node.next c.follow.item c.in-Some.single c.in-Some.to
          _ c.in_ok-step_node.ensures.state c.in_ok-step_node.ensures.said c.in-Some.ensures.only c.in-Node.is w);
    }

pub follow-smaller : goal.follow-smaller
follow-smaller g c =
    let edges = edges_of (wiring_of c.args.graph.now) in
    let lead : LeadsOn edges c.follow.node c.in-Some.to = c.in-Some.ensures.leads in
    let next = subst (λ (t : Target). LeadsOn edges c.follow.node t) c.in-Node.is lead in
    next.1

pub returns-in-Out-clause-walks : goal.returns-in-Out-clause-walks
returns-in-Out-clause-walks g c =
    c.follow.invariant.walks c.step_node.new.states.items c.push.new.self.items
    (serve_last (network_of g.O.Step.behavior c.args.graph.now) c.follow.states.items c.step_node.new.states.items c.follow.out.items c.push.new.self.items c.follow.node c.follow.item c.in-Some.single c.in-Some.to
    _ c.in_ok-step_node.ensures.state c.in_ok-step_node.ensures.said c.in-Some.ensures.only c.in-Out.is c.in_ok-push-in-Out.ensures.items)

pub returns-in_default-clause-walks : goal.returns-in_default-clause-walks
returns-in_default-clause-walks g c =
    let all = ap (λ said. said.items) c.replace-all.ensures.value ∙ c.in_default.ensures.none in
    IfOk-weaker c.deliver_all.result _ _
    (λ _ w. c.follow.invariant.walks c.deliver_all.new.states.items c.deliver_all.new.out.items
    (serve_one (network_of g.O.Step.behavior c.args.graph.now) c.follow.states.items c.deliver_all.new.states.items c.step_node.new.states.items c.follow.out.items c.deliver_all.new.out.items
    c.follow.node (Some c.follow.item) _ c.step_node.new.states.items c.in_ok-step_node.ensures.state c.in_ok-step_node.ensures.said (rw all at w)))
    c.deliver_all.ensures.walks

pub deliver_all-requires : goal.deliver_all-requires
deliver_all-requires g c = record { node = c.follow.invariant.within; states = c.step_node.ensures.kept ∙ (c.follow.invariant.kept ∙ c.requires.states) }
