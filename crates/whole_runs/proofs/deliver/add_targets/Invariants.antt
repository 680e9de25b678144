use Rattle.std.proofs.Common.{◌≡◌, ◌++◌, take}
use Rattle.graph_core.specs.Traces.{calls_of_targets}
use Rattle.whole_runs.proofs.deliver.add_targets.Given as goal

abbrev pub invariant-loop-place : goal.invariant-loop-place
invariant-loop-place g l = l.calls.items ≡ l.initial.calls.items ++ calls_of_targets (take l.place l.others) l.at 0 l.item
