use Rattle.std.proofs.Common.{◌≡◌, ◌+◌, ◌++◌, map}
use Rattle.std.specs.VecDeque.{deque_len}
use Rattle.graph_core.specs.Traces.{calls_of_emissions}
use Rattle.whole_runs.proofs.deliver.add_emissions.Given as goal

-- the calls so far, and those of the emissions that are left
abbrev pub invariant-emitting : goal.invariant-emitting
invariant-emitting g l = record {
  counted : l.place + deque_len l.left ≡ deque_len l.initial.left;
  whole : l.calls.items ++ calls_of_emissions (map (λ port. port.items) l.node.ports.items) l.at l.place l.left.items
      ≡ l.initial.calls.items ++ calls_of_emissions (map (λ port. port.items) l.node.ports.items) l.at 0 l.initial.left.items;
}

abbrev pub decreases-emitting : goal.decreases-emitting
decreases-emitting g l = deque_len l.left
