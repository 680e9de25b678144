use Rattle.std.proofs.Common.{◌∙◌, ap, sym}
use Rattle.std.proofs.lemmas.Result.{IfOk-weaker}
use Rattle.graph_core.specs.Closing.{closing_order}
use Rattle.graph_core.specs.Traces.{network_of}
use Rattle.graph_core.specs.Wiring.{wiring_of, edges_of}
use Rattle.graph_core.proofs.Delivering.{length_edges}
use Rattle.whole_runs.specs.Requests.{requests}
use Rattle.whole_runs.specs.Inner.Serving.{states_in_order, calls_in_order}
use Rattle.whole_runs.proofs.Serving.{served}
use Rattle.whole_runs.proofs.run.Goals as goal

pub returns-clause-served : goal.returns-clause-served
returns-clause-served g c =
    let net = network_of g.O.Step.behavior c.args.graph.now in
    let order = closing_order (edges_of (wiring_of c.args.graph.now)) in
    IfOk-weaker c.items_of.result _ _
    (λ out e. served net c.args.states.now.items c.list_callers_first.ensures (c.requires.states ∙ sym (length_edges c.args.graph.now)) (requests net c.args.items.items c.args.closed)
    c.serve_all.new.states.items c.in_ok-left.left.items c.in_ok-out.out.items c.in_ok-trace.trace.items out.items
    (c.in_ok-left.ensures.states ∙ ap (states_in_order net order c.args.states.now.items) c.in_ok-calls.ensures)
    (c.in_ok-left.ensures.calls ∙ ap (calls_in_order net order c.args.states.now.items) c.in_ok-calls.ensures)
    c.in_ok-out.ensures.own c.in_ok-trace.ensures e)
    c.items_of.ensures
