use Rattle.std.proofs.Common.{refl}
use Rattle.mem_world.specs.DiskFiles.{own_file}
use Rattle.mem_world.proofs.DiskCalls.{durable_own}
use Rattle.mem_world.proofs.disk.MemDisk.crash.Goals as goal

pub returns-clause-image : goal.returns-clause-image
returns-clause-image c = λ file. c.in_ok-parts.ensures.image (own_file file)

pub returns-clause-durable : goal.returns-clause-durable
returns-clause-durable c = λ file. durable_own file (own_file file) (record { parts = c.in_ok-parts.parts }) refl (c.in_ok-parts.ensures.durable (own_file file))

pub returns-clause-torn : goal.returns-clause-torn
returns-clause-torn c = λ file. c.in_ok-parts.ensures.torn (own_file file)
