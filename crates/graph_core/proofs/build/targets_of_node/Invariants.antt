use Rattle.std.proofs.Common.{◌≡◌, map, take}
use Rattle.std.specs.List.{flat_map}
use Rattle.graph_core.proofs.build.targets_of_node.Given as goal

abbrev pub invariant-loop-port : goal.invariant-loop-port
invariant-loop-port g l = l.targets.items ≡ flat_map (λ port. port) (map (λ port. port.items) (take l.port-index l.node.ports.items))
