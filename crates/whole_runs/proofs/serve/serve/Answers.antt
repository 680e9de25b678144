use Rattle.graph_core.specs.Traces.{network_of}
use Rattle.whole_runs.proofs.Nodes.{states_left, calls_left}
use Rattle.whole_runs.proofs.serve.serve.Goals as goal

pub returns-clause-states : goal.returns-clause-states
returns-clause-states g c =
    states_left (network_of g.O.Step.behavior c.args.graph.now) c.args.node c.args.states.now.items c.args.calls.items c.in_ok-own.own.items c.in_ok-trace.trace.items c.in_ok-own.ensures.own c.in_ok-trace.ensures
    c.take_at.new.states.items c.in_ok-take_at.ensures.states

pub returns-clause-calls : goal.returns-clause-calls
returns-clause-calls g c =
    calls_left (network_of g.O.Step.behavior c.args.graph.now) c.args.node c.args.states.now.items c.args.calls.items c.in_ok-own.own.items c.in_ok-trace.trace.items c.in_ok-own.ensures.own c.in_ok-trace.ensures
    c.in_ok-own.left.items c.take_at.new.calls.items c.in_ok-own.ensures.others c.in_ok-take_at.ensures.calls
