use Rattle.mem_world.proofs.TreeFails.{GoingDown}
use Rattle.mem_world.proofs.tree.failures.count_down.Given as goal

abbrev pub invariant-loop-call : goal.invariant-loop-call
invariant-loop-call l = GoingDown l.initial.calls l.calls l.call-index
