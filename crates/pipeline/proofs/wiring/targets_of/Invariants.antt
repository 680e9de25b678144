use Rattle.std.proofs.Common.{◌≡◌, map, take}
use Rattle.pipeline.specs.Wired.{targets_named}
use Rattle.pipeline.proofs.wiring.targets_of.Given as goal

abbrev pub invariant-loop-name : goal.invariant-loop-name
invariant-loop-name l = l.targets.items ≡ targets_named (map (λ id. id.now) l.ids.keys) (take l.name-index l.names)
