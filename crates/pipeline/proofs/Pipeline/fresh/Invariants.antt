use Rattle.std.proofs.Common.{◌≡◌, map, take}
use Rattle.op_kinds.specs.Operator.{behavior_of}
use Rattle.pipeline.proofs.Pipeline.fresh.Given as goal

abbrev pub invariant-loop-node : goal.invariant-loop-node
invariant-loop-node l = l.states.items ≡ map (λ behavior. behavior.first) (map (λ node. behavior_of node.op) (take l.node-index l.node-items))
