use Rattle.std.proofs.Common.{[], ◌∷◌}
use Rattle.std.proofs.lemmas.Result.{IfOk-weaker}
use Rattle.graph_core.specs.Traces.{network_of, inputs}
use Rattle.graph_core.proofs.Pushing.{served, one_more}
use Rattle.graph_core.proofs.Graph.push_by.Goals as goal

pub returns-clause-served : goal.returns-clause-served
returns-clause-served g c =
    let net = network_of g.O.Step.behavior c.args.self.now in
    IfOk-weaker c.enter.result _ _
    (λ _ w. served net c.enter.ensures.ordered c.args.states.now.items c.enter.new.states.items c.args.out.now.items c.enter.new.out.items (inputs net (c.args.item ∷ [])) w)
    c.enter.ensures.walks

pub returns-clause-one_more : goal.returns-clause-one_more
returns-clause-one_more g c =
    let net = network_of g.O.Step.behavior c.args.self.now in
    IfOk-weaker c.enter.result _ _
    (λ _ w. one_more net c.enter.ensures.ordered c.args.states.now.items c.enter.new.states.items c.args.out.now.items c.enter.new.out.items c.args.item w)
    c.enter.ensures.walks
