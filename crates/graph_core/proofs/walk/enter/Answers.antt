use Rattle.std.proofs.Common.{◌≡◌, length, sym, arith, vec_len}
use Rattle.std.proofs.lemmas.Bool.{eqb-true}
use Rattle.graph_core.proofs.Pushing.{enter_empty}
use Rattle.graph_core.proofs.walk.enter.Goals as goal

pub returns-then-is_empty-clause-walks : goal.returns-then-is_empty-clause-walks
returns-then-is_empty-clause-walks g c =
    let none : length c.args.graph.now ≡ 0 =
    rw (← c.graph.view_is) (omega (arith, eqb-true (vec_len c.graph.inside.nodes) 0 (sym c.if-is_empty.ensures), c.graph.inside.nodes.ok.0)) in
    enter_empty g.O.Step.behavior c.args.graph.now none c.args.states.now.items c.args.out.now.items c.push.new.self.items c.args.item c.in_ok-push.ensures.items
