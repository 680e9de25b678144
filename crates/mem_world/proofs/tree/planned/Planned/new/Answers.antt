use Rattle.mem_world.proofs.TreePacing.{paced_new}
use Rattle.mem_world.proofs.tree.planned.Planned.new.Goals as goal

pub invariant_of-result : goal.invariant_of-result
invariant_of-result c = paced_new c.new.result c.new-2.result.items c.new.ensures c.new-2.ensures.items
