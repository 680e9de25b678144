use Rattle.mem_world.proofs.TreeScheduling.{CountingDown}
use Rattle.mem_world.proofs.tree.schedule.count_down.Given as goal

abbrev pub invariant-loop-scheduled : goal.invariant-loop-scheduled
invariant-loop-scheduled l = CountingDown l.calls l.initial.steps l.steps l.scheduled-index
