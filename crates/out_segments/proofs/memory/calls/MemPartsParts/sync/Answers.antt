use Rattle.out_segments.proofs.MemSteps.{part_sync_moves}
use Rattle.out_segments.proofs.memory.calls.MemPartsParts.sync.Goals as goal

pub returns-clause-crash : goal.returns-clause-crash
returns-clause-crash c = part_sync_moves c.args.file c.call.result c.args.self.now c.call.new.self c.call.ensures.calls
