use Rattle.std.proofs.Common.{take}
use Rattle.graph_core.specs.Runs.{IsAscending}
use Rattle.whole_runs.proofs.ascending.is_ascending.Given as goal

abbrev pub invariant-loop-place : goal.invariant-loop-place
invariant-loop-place g l = IsAscending (take l.place l.calls.items)
