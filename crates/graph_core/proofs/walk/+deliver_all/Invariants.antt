use Rattle.std.proofs.Common.{◌≡◌, length}
use Rattle.std.specs.VecDeque.{deque_len}
use Rattle.graph_core.specs.Wiring.{wiring_of, edges_of, Has}
use Rattle.graph_core.specs.Closing.{closing_order}
use Rattle.graph_core.specs.Traces.{network_of}
use Rattle.graph_core.specs.Inner.Walk.{owed, Walk, height, LeadsOn}
use Rattle.graph_core.proofs.walk.+deliver_all.Given as goal

abbrev pub decreases-deliver_all : goal.decreases-deliver_all
decreases-deliver_all g l = height (closing_order (edges_of (wiring_of l.graph.now))) l.node

-- what is left to serve leads wherever all of it leads from the start
abbrev pub invariant-loop-to : goal.invariant-loop-to
invariant-loop-to g l = record {
  kept : length l.states.items ≡ length l.initial.states.items;
  leads : (d : _) → Has l.queue.items d → LeadsOn (edges_of (wiring_of l.graph)) l.node d.0;
  walks : (t : _) (p : _) → Walk (network_of g.O.Step.behavior l.graph) l.states.items l.out.items (owed l.queue.items) t p
      → Walk (network_of g.O.Step.behavior l.graph) l.initial.states.items l.initial.out.items (owed l.initial.queue.items) t p;
}

abbrev pub decreases-loop-to : goal.decreases-loop-to
decreases-loop-to g l = deque_len l.queue
