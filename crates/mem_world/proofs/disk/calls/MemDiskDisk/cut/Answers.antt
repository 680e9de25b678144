use Rattle.out_segments.proofs.MemSteps.{cut_moves}
use Rattle.mem_world.specs.DiskFiles.{own_file}
use Rattle.mem_world.proofs.DiskCalls.{at_own, at_own_ok, disk_moves, own_one}
use Rattle.mem_world.proofs.disk.calls.MemDiskDisk.cut.Goals as goal

pub cut-requires : goal.cut-requires
cut-requires c = rw c.own_file.ensures c.requires

pub returns-clause-cut : goal.returns-clause-cut
returns-clause-cut c = at_own_ok c.cut.result c.args.file c.own_file.result _ c.args.self.now (record { parts = c.cut.new.self }) c.own_file.ensures c.cut.ensures.cut

pub returns-clause-begun : goal.returns-clause-begun
returns-clause-begun c = at_own c.args.file c.own_file.result c.args.self.now (record { parts = c.cut.new.self }) c.own_file.ensures c.cut.ensures.begun

pub returns-clause-crash : goal.returns-clause-crash
returns-clause-crash c =
    let calls = rw c.own_file.ensures at c.cut.ensures.calls in
    disk_moves c.args.self.now (record { parts = c.cut.new.self }) (cut_moves own_file own_one c.args.file c.args.length c.cut.result c.args.self.now.parts c.cut.new.self calls)

pub returns-clause-calls : goal.returns-clause-calls
returns-clause-calls c = rw c.own_file.ensures at c.cut.ensures.calls
