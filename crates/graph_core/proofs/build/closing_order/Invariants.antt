use Rattle.std.proofs.Common.{◌≡◌, ◌-◌, length}
use Rattle.graph_core.specs.Closing.{closing_order, listed_on}
use Rattle.graph_core.specs.Inner.Reach.{lists_of}
use Rattle.graph_core.proofs.build.closing_order.Given as goal

abbrev pub invariant-loop-step : goal.invariant-loop-step
invariant-loop-step l = listed_on (lists_of l.edges) (length l.edges - l._step) l.order.items ≡ closing_order (lists_of l.edges)
