use Rattle.mem_world.proofs.TreeCutting.{Cutting}
use Rattle.mem_world.proofs.tree.shorten.cut.Given as goal

abbrev pub invariant-loop-recorded : goal.invariant-loop-recorded
invariant-loop-recorded l = Cutting l.file l.size l.initial.history l.history l.left l.recorded-index
