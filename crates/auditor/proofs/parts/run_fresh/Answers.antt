use Rattle.std.proofs.Common.{◌≡◌, []}
use Rattle.graph_core.specs.Traces.{start_states}
use Rattle.pipeline.specs.Parts.{network}
use Rattle.whole_runs.specs.Requests.{requests}
use Rattle.auditor.proofs.Running.{ran, ran_kinds, begun_so}
use Rattle.auditor.proofs.parts.run_fresh.Goals as goal

pub returns-clause-items : goal.returns-clause-items
returns-clause-items c =
    let pipe = c.args.pipe.now in
    let begun : c.in_ok-state.state.states.items ≡ start_states (network pipe) =
    begun_so pipe c.graph.result.now c.in_ok-state.state.states.items c.graph.ensures (c.begin.ensures (start_states (network pipe)) []) (c.in_ok-state.ensures.stands []).states in
    (ran pipe c.graph-3.result.now c.in_ok-state.state.states.items c.run.new.states.items c.args.entries.items c.in_ok-items.items.items c.args.closed c.graph-3.ensures begun c.in_ok-items.ensures.served).items

pub returns-clause-states : goal.returns-clause-states
returns-clause-states c =
    let pipe = c.args.pipe.now in
    let begun : c.in_ok-state.state.states.items ≡ start_states (network pipe) =
    begun_so pipe c.graph.result.now c.in_ok-state.state.states.items c.graph.ensures (c.begin.ensures (start_states (network pipe)) []) (c.in_ok-state.ensures.stands []).states in
    (ran pipe c.graph-3.result.now c.in_ok-state.state.states.items c.run.new.states.items c.args.entries.items c.in_ok-items.items.items c.args.closed c.graph-3.ensures begun c.in_ok-items.ensures.served).states

pub returns-clause-kinds : goal.returns-clause-kinds
returns-clause-kinds c =
    let pipe = c.args.pipe.now in
    ran_kinds pipe c.run.new.states.items (requests (network pipe) c.args.entries.items c.args.closed) (returns-clause-states c)
