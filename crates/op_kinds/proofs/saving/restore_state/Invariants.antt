use Rattle.op_kinds.proofs.States.{SoFar}
use Rattle.op_kinds.proofs.saving.restore_state.Given as goal

abbrev pub invariant-loop-node : goal.invariant-loop-node
invariant-loop-node l = SoFar l.nodes l.bytes l.node-index l.states.items l.at
