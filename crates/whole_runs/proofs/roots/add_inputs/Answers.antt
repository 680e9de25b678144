use Rattle.graph_core.specs.Traces.{network_of}
use Rattle.whole_runs.proofs.Adding.{inputs_more}
use Rattle.whole_runs.proofs.roots.add_inputs.Goals as goal

pub loop-item-preserved : goal.loop-item-preserved
loop-item-preserved g c =
    inputs_more (network_of g.O.Step.behavior c.args.graph.now) c.loop-item.yielded c.in-Some.item c.entry_of-entry.result c.loop-item.calls.items c.add.new.calls.items
    c.entry_of-entry.ensures c.loop-item.invariant c.in_ok-add.ensures
