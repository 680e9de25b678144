use Rattle.mem_world.specs.TreeHandles.{handles_of}
use Rattle.mem_world.proofs.TreeHanding.{above_none}
use Rattle.mem_world.proofs.tree.MemTree.hand_out.Goals as goal

pub returns-clause-is_new : goal.returns-clause-is_new
returns-clause-is_new c = above_none c.args.self.now.next (handles_of c.args.self.now.handles.items) c.args.self.now.below
