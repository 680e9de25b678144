use Rattle.out_segments.specs.MemParts.{history_of}
use Rattle.out_segments.proofs.MemCrashing.{carried_put, others_put}
use Rattle.out_segments.proofs.memory.MemParts.carry.Goals as goal

pub returns-clause-carried : goal.returns-clause-carried
returns-clause-carried c = carried_put c.args.outcome (history_of c.args.self.now) c.args.file c.put.result c.args.after.now c.put.new.self c.deref.result.now c.in_ok-left.left.items c.deref.ensures.value c.in_ok-left.ensures.left (rw c.of.ensures at c.in_ok-left.ensures.torn) c.put.ensures.seen c.put.ensures.durable

pub returns-clause-others : goal.returns-clause-others
returns-clause-others c = others_put c.args.file c.put.result c.args.after.now c.put.new.self c.deref.result.now c.put.ensures.seen c.put.ensures.crash
