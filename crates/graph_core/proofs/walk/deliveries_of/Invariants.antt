use Rattle.std.proofs.Common.{◌≡◌, map}
use Rattle.graph_core.specs.Inner.Walk.{deliveries}
use Rattle.graph_core.proofs.walk.deliveries_of.Given as goal

abbrev pub invariant-loop-port : goal.invariant-loop-port
invariant-loop-port g l = l.queue.items ≡ deliveries (map (λ port. port.items) l.node.ports.items) l.yielded
