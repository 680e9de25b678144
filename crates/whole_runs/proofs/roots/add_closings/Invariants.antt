use Rattle.std.proofs.Common.{◌≡◌, ◌++◌, take}
use Rattle.graph_core.specs.Traces.{numbered}
use Rattle.whole_runs.specs.Requests.{closings_of}
use Rattle.whole_runs.proofs.roots.add_closings.Given as goal

abbrev pub invariant-loop-node : goal.invariant-loop-node
invariant-loop-node g l = (earlier : _) → l.initial.calls.items ≡ numbered 0 earlier
    → l.calls.items ≡ numbered 0 (earlier ++ closings_of (take l.node-index l.order))
