use Rattle.out_segments.proofs.MemSteps.{part_cut_moves}
use Rattle.out_segments.proofs.memory.calls.MemPartsParts.cut.Goals as goal

pub returns-clause-crash : goal.returns-clause-crash
returns-clause-crash c = part_cut_moves c.args.file c.args.length c.call.result c.args.self.now c.call.new.self c.call.ensures.calls
