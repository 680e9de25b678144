use Rattle.outside.specs.Closing.{Closes}
use Rattle.mem_world.specs.MemTree.{state_of}
use Rattle.mem_world.proofs.TreeTelling.{told_change, told_plan_same}
use Rattle.mem_world.proofs.TreeMoves.{closes_world}
use Rattle.mem_world.proofs.tree.calls.MemTreeTree.close.Goals as goal

pub returns-clause-history : goal.returns-clause-history
returns-clause-history c = told_change (Closes c.args.handle.0) (state_of c.args.self.now) (state_of c.close_now.new.self) c.close_now.ensures.called.told (closes_world c.args.handle.0 (state_of c.args.self.now) (state_of c.close_now.new.self) c.close_now.ensures)

pub returns-clause-plan : goal.returns-clause-plan
returns-clause-plan c = told_plan_same (state_of c.args.self.now) (state_of c.close_now.new.self) c.close_now.ensures.called.told c.close_now.ensures.called.plan
