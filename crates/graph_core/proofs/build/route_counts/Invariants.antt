use Rattle.std.proofs.Common.{◌≡◌}
use Rattle.graph_core.specs.Inner.Reach.{lists_of, capped_counts}
use Rattle.graph_core.proofs.build.route_counts.Given as goal

abbrev pub invariant-loop-step : goal.invariant-loop-step
invariant-loop-step l = l.counts.items ≡ capped_counts (lists_of l.edges) l._step
