use Rattle.std.proofs.Common.{◌≡◌, ◌-◌, length}
use Rattle.graph_core.specs.Closing.{is_ready, ready_from}
use Rattle.graph_core.specs.Inner.Reach.{lists_of}
use Rattle.graph_core.proofs.build.is_ready.Given as goal

abbrev pub invariant-loop-caller : goal.invariant-loop-caller
invariant-loop-caller l = ready_from (lists_of l.edges) l.listed l.node l.caller (length l.edges - l.caller) ≡ is_ready (lists_of l.edges) l.listed l.node
