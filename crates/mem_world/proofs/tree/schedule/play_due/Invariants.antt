use Rattle.mem_world.proofs.TreeScheduling.{Playing}
use Rattle.mem_world.proofs.tree.schedule.play_due.Given as goal

abbrev pub invariant-loop-place : goal.invariant-loop-place
invariant-loop-place l = Playing l.calls l.initial.steps l.initial.world l.steps l.world l.place
