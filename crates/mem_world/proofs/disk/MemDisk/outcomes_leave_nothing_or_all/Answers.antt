use Rattle.mem_world.specs.DiskFiles.{own_file}
use Rattle.mem_world.proofs.disk.MemDisk.outcomes_leave_nothing_or_all.Goals as goal

pub returns-clause-nothing : goal.returns-clause-nothing
returns-clause-nothing c = λ file log. c.outcomes_leave_nothing_or_all.ensures.nothing (own_file file) log

pub returns-clause-all : goal.returns-clause-all
returns-clause-all c = λ file log. c.outcomes_leave_nothing_or_all.ensures.all (own_file file) log
