use Rattle.std.proofs.Common.{◌≡◌, ◌-◌, length}
use Rattle.graph_core.specs.Inner.Reach.{lists_of, spread, reached}
use Rattle.graph_core.proofs.build.reached_from.Given as goal

abbrev pub invariant-loop-place : goal.invariant-loop-place
invariant-loop-place l = spread (lists_of l.edges) (length l.edges - l.place) l.place l.seen.items ≡ reached (lists_of l.edges) l.fn.node
