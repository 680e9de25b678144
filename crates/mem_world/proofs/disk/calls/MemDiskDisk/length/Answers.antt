use Rattle.out_segments.proofs.MemSteps.{same_moves}
use Rattle.mem_world.specs.DiskFiles.{own_file}
use Rattle.mem_world.proofs.DiskCalls.{disk_moves, seen_own}
use Rattle.mem_world.proofs.disk.calls.MemDiskDisk.length.Goals as goal

pub returns-clause-length : goal.returns-clause-length
returns-clause-length c = rw c.own_file.ensures at c.length.ensures.length

pub returns-clause-seen : goal.returns-clause-seen
returns-clause-seen c = seen_own c.args.self.now (record { parts = c.length.new.self }) c.length.ensures.seen

pub returns-clause-crash : goal.returns-clause-crash
returns-clause-crash c = disk_moves c.args.self.now (record { parts = c.length.new.self }) (same_moves own_file c.args.self.now.parts c.length.new.self c.length.ensures.history)
