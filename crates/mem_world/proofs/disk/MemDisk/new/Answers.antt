use Rattle.std.proofs.Common.{refl}
use Rattle.mem_world.specs.DiskFiles.{own_file}
use Rattle.mem_world.proofs.DiskCalls.{durable_own}
use Rattle.mem_world.proofs.disk.MemDisk.new.Goals as goal

pub returns-clause-empty : goal.returns-clause-empty
returns-clause-empty c = λ file. c.in_ok-parts.ensures.empty (own_file file)

pub returns-clause-durable : goal.returns-clause-durable
returns-clause-durable c = λ file. durable_own file (own_file file) (record { parts = c.in_ok-parts.parts }) refl (c.in_ok-parts.ensures.durable (own_file file))
