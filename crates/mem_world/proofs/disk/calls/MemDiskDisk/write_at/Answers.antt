use Rattle.std.proofs.Common.{◌+◌, ◌∙◌, Some, length}
use Rattle.out_segments.proofs.MemSteps.{writes_moves}
use Rattle.mem_world.specs.DiskFiles.{own_file}
use Rattle.mem_world.specs.MemDisk.{written_of}
use Rattle.mem_world.proofs.DiskCalls.{at_own, at_own_ok, disk_moves, ends_within, given_own, own_one}
use Rattle.mem_world.proofs.disk.calls.MemDiskDisk.write_at.Goals as goal

pub write_at-requires-clause-begins : goal.write_at-requires-clause-begins
write_at-requires-clause-begins c = rw c.own_file.ensures c.requires.begins

pub write_at-requires-clause-ends : goal.write_at-requires-clause-ends
write_at-requires-clause-ends c = ends_within c.args.file (c.args.offset + length c.args.bytes.now) c.requires.ends

pub returns-clause-written : goal.returns-clause-written
returns-clause-written c = at_own_ok c.write_at.result c.args.file c.own_file.result _ c.args.self.now (record { parts = c.write_at.new.self }) c.own_file.ensures c.write_at.ensures.written

pub returns-clause-begun : goal.returns-clause-begun
returns-clause-begun c = at_own c.args.file c.own_file.result c.args.self.now (record { parts = c.write_at.new.self }) c.own_file.ensures c.write_at.ensures.begun

pub returns-clause-crash : goal.returns-clause-crash
returns-clause-crash c =
    let writes = rw c.own_file.ensures at c.write_at.ensures.calls in
    disk_moves c.args.self.now (record { parts = c.write_at.new.self }) (writes_moves own_file own_one c.args.file c.args.offset c.args.bytes.now c.write_at.result c.args.self.now.parts c.write_at.new.self writes)

pub returns-clause-counted : goal.returns-clause-counted
returns-clause-counted c = (rw c.own_file.ensures at c.write_at.ensures.counted) ∙ given_own c.args.file (length c.args.bytes.now) (Some (written_of c.args.self.now))

pub returns-clause-calls : goal.returns-clause-calls
returns-clause-calls c = rw c.own_file.ensures at c.write_at.ensures.calls
