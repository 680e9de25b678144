use Rattle.graph_core.proofs.Delivering.{only_delivery, only_taken}
use Rattle.graph_core.proofs.walk.take_only.Goals as goal

pub returns-in-Some-pop-clause-only : goal.returns-in-Some-pop-clause-only
returns-in-Some-pop-clause-only g c = only_delivery _ c.args.said.now.items c.in-Some.to (rw c.deref.ensures.value at c.in-Some.ensures) c.pop.new.self.items _ c.in-Some-pop.ensures.items

pub returns-in-Some-pop-clause-taken : goal.returns-in-Some-pop-clause-taken
returns-in-Some-pop-clause-taken g c = only_taken _ c.args.said.now.items c.in-Some.to (rw c.deref.ensures.value at c.in-Some.ensures) c.pop.new.self.items _ c.in-Some-pop.ensures.items
