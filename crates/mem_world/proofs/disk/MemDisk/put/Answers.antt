use Rattle.mem_world.proofs.DiskCalls.{at_own_ok, durable_own_ok, put_own}
use Rattle.mem_world.proofs.disk.MemDisk.put.Goals as goal

pub returns-clause-seen : goal.returns-clause-seen
returns-clause-seen c = at_own_ok c.put.result c.args.file c.own_file.result _ c.args.self.now (record { parts = c.put.new.self }) c.own_file.ensures c.put.ensures.seen

pub returns-clause-durable : goal.returns-clause-durable
returns-clause-durable c = durable_own_ok c.put.result c.args.file c.own_file.result (record { parts = c.put.new.self }) c.own_file.ensures c.put.ensures.durable

pub returns-clause-crash : goal.returns-clause-crash
returns-clause-crash c = put_own c.put.result c.args.file c.own_file.result c.args.bytes.now c.args.self.now (record { parts = c.put.new.self }) c.own_file.ensures c.put.ensures.puts
