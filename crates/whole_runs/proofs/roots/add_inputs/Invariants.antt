use Rattle.std.proofs.Common.{◌≡◌}
use Rattle.graph_core.specs.Traces.{network_of, inputs, numbered}
use Rattle.whole_runs.proofs.roots.add_inputs.Given as goal

abbrev pub invariant-loop-item : goal.invariant-loop-item
invariant-loop-item g l = l.calls.items ≡ numbered 0 (inputs (network_of g.O.Step.behavior l.graph) l.yielded)
