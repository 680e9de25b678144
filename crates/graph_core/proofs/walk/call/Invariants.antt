use Rattle.std.proofs.Common.{◌≡◌, ◌<◌, [], ◌∷◌, length}
use Rattle.std.specs.Prelude.{Some}
use Rattle.graph_core.specs.declared.Target.TheVariants.{Node}
use Rattle.graph_core.specs.Wiring.{wiring_of, edges_of}
use Rattle.graph_core.specs.Closing.{closing_order}
use Rattle.graph_core.specs.Traces.{network_of}
use Rattle.graph_core.specs.Inner.Walk.{Walk, height}
use Rattle.graph_core.proofs.walk.call.Given as goal

-- what follows from the call at hand leads wherever what follows from the first one does
abbrev pub invariant-follow : goal.invariant-follow
invariant-follow g l = record {
  empty : l.said.items ≡ [];
  within : l.node < length l.graph;
  kept : length l.states.items ≡ length l.initial.states.items;
  walks : (t : _) (p : _) → Walk (network_of g.O.Step.behavior l.graph) l.states.items l.out.items ((Node l.node, Some l.item) ∷ []) t p
      → Walk (network_of g.O.Step.behavior l.graph) l.initial.states.items l.initial.out.items ((Node l.initial.node, Some l.initial.item) ∷ []) t p;
}

abbrev pub decreases-follow : goal.decreases-follow
decreases-follow g l = height (closing_order (edges_of (wiring_of l.graph))) l.node
