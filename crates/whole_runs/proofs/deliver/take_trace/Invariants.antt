use Rattle.std.proofs.Common.{◌≡◌, ◌++◌, map}
use Rattle.std.specs.Prelude.{Some}
use Rattle.std.specs.VecDeque.{deque_len}
use Rattle.graph_core.specs.Traces.{state_after, calls_of_trace}
use Rattle.whole_runs.proofs.deliver.take_trace.Given as goal

-- what the calls that are left lead to from here is what all led to from the start
abbrev pub invariant-taking : goal.invariant-taking
invariant-taking g l = record {
  state : state_after (Some (g.O.Step.behavior l.node.op)) l.state l.trace.items ≡ state_after (Some (g.O.Step.behavior l.node.op)) l.initial.state l.initial.trace.items;
  whole : l.calls.items ++ calls_of_trace (Some (g.O.Step.behavior l.node.op)) (map (λ port. port.items) l.node.ports.items) l.state l.trace.items
      ≡ l.initial.calls.items ++ calls_of_trace (Some (g.O.Step.behavior l.node.op)) (map (λ port. port.items) l.node.ports.items) l.initial.state l.initial.trace.items;
}

abbrev pub decreases-taking : goal.decreases-taking
decreases-taking g l = deque_len l.trace
