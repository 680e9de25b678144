use Rattle.mem_world.proofs.TreePacing.{paced_follows, paced_within}
use Rattle.mem_world.proofs.tree.planned.Planned.keeps_plan.Goals as goal

pub returns-clause-followed : goal.returns-clause-followed
returns-clause-followed c = rw (← c.self.view_is) (paced_within c.self.invariant, paced_follows c.self.invariant)
