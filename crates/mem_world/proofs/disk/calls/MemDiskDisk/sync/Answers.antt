use Rattle.out_segments.proofs.MemSteps.{sync_moves}
use Rattle.mem_world.specs.DiskFiles.{own_file}
use Rattle.mem_world.proofs.DiskCalls.{disk_moves, durable_own_ok, own_one, seen_own}
use Rattle.mem_world.proofs.disk.calls.MemDiskDisk.sync.Goals as goal

pub returns-clause-durable : goal.returns-clause-durable
returns-clause-durable c = durable_own_ok c.sync.result c.args.file c.own_file.result (record { parts = c.sync.new.self }) c.own_file.ensures c.sync.ensures.durable

pub returns-clause-seen : goal.returns-clause-seen
returns-clause-seen c = seen_own c.args.self.now (record { parts = c.sync.new.self }) c.sync.ensures.seen

pub returns-clause-crash : goal.returns-clause-crash
returns-clause-crash c =
    let calls = rw c.own_file.ensures at c.sync.ensures.calls in
    disk_moves c.args.self.now (record { parts = c.sync.new.self }) (sync_moves own_file own_one c.args.file c.sync.result c.args.self.now.parts c.sync.new.self calls)

pub returns-clause-calls : goal.returns-clause-calls
returns-clause-calls c = rw c.own_file.ensures at c.sync.ensures.calls
