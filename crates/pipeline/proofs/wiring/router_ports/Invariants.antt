use Rattle.std.proofs.Common.{◌≡◌, map, take}
use Rattle.pipeline.proofs.Targets.{route_targets}
use Rattle.pipeline.proofs.wiring.router_ports.Given as goal

abbrev pub invariant-loop-route : goal.invariant-loop-route
invariant-loop-route l = map (λ port. port.items) l.ports.items ≡ route_targets (map (λ id. id.now) l.ids.keys) (take l.route-index l.routes)
