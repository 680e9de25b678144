use Rattle.std.proofs.lemmas.Result.{IfOk-weaker}
use Rattle.graph_core.specs.Traces.{network_of, inputs, closings}
use Rattle.graph_core.proofs.Pushing.{served, served_more, fresh_after}
use Rattle.graph_core.proofs.Graph.close.Goals as goal

pub returns-clause-served : goal.returns-clause-served
returns-clause-served g c =
    let net = network_of g.O.Step.behavior c.args.self.now in
    IfOk-weaker c.close_all.result _ _
    (λ _ w. served net c.close_all.ensures.ordered c.args.states.now.items c.close_all.new.states.items c.args.out.now.items c.close_all.new.out.items (closings net) w)
    c.close_all.ensures.walks

pub returns-clause-closed_run : goal.returns-clause-closed_run
returns-clause-closed_run g c =
    let net = network_of g.O.Step.behavior c.args.self.now in
    IfOk-weaker c.close_all.result _ _
    (λ _ w from before earlier. served_more net c.close_all.ensures.ordered c.args.states.now.items c.close_all.new.states.items c.args.out.now.items c.close_all.new.out.items (closings net) w from before (inputs net earlier))
    c.close_all.ensures.walks

pub returns-clause-fresh : goal.returns-clause-fresh
returns-clause-fresh g c =
    IfOk-weaker c.close_all.result _ _
    (λ _ w. fresh_after g.O.Step.behavior c.args.self.now c.close_all.ensures.ordered c.args.states.now.items c.close_all.new.states.items c.args.out.now.items c.close_all.new.out.items c.requires w)
    c.close_all.ensures.walks
