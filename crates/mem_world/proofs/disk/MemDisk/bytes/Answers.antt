use Rattle.mem_world.proofs.disk.MemDisk.bytes.Goals as goal

pub returns : goal.returns
returns c = rw c.own_file.ensures at c.bytes.ensures
