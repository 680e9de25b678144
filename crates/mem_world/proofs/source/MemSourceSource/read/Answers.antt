use Rattle.std.proofs.Common.{arith, rules}
use Rattle.std.proofs.lemmas.Grind.{common_steps}
use Rattle.mem_world.proofs.StreamTaking.{takes_piece}
use Rattle.mem_world.proofs.source.MemSourceSource.read.Goals as goal

pub returns-clause-rest : goal.returns-clause-rest
returns-clause-rest c =
    takes_piece c.args.self.now.bytes.items c.args.buf.now c.copy_from_slice.new.self c.args.self.now.position c.min-count.result c.args.self.now.piece
    (grind (arith, common_steps)) (search rules) (search rules) (grind (arith, common_steps))
