use Rattle.std.proofs.Common.{◌≡◌, length, drop, [], refl, arith, ◌∙◌}
use Rattle.std.proofs.lemmas.List.{length-take-le}
use Rattle.file_pass.specs.declared.ending.Ending.TheVariants.{Whole, Shrunk}
use Rattle.file_pass.proofs.PieceLemmas.{piece_read}
use Rattle.file_pass.proofs.reading.read_piece.Goals as goal

pub returns-in-Ok-eq0-clause-tree : goal.returns-in-Ok-eq0-clause-tree
returns-in-Ok-eq0-clause-tree g c =
    let long : length c.read_at.new.buf ≡ c.room-room.result = c.read_at.auto.buf ∙ length-take-le c.room-room.result c.args.buffer.now c.room-room.ensures.2 in
    let ensured = rw c.in-Ok-eq0.field-0-test at c.in-Ok-eq0.ensures in
    piece_read g.T.Tree.meaning c.args.handle.0 c.args.from c.args.last c.read_at.new.buf [] (length c.args.buffer.now) 0 Shrunk c.args.tree.now c.read_at.new.self c.requires.some (omega (arith, long, c.room-room.ensures)) (omega (arith, long, c.room-room.ensures)) (omega (arith, c.requires.some)) (omega arith)
    (λ is. refl) ensured.cause ensured.history ensured.nameless ensured.plan ensured.bound ensured.taken ensured.widest

pub returns-in-Ok-clause-tree : goal.returns-in-Ok-clause-tree
returns-in-Ok-clause-tree g c =
    let long : length c.read_at.new.buf ≡ c.room-room.result = c.read_at.auto.buf ∙ length-take-le c.room-room.result c.args.buffer.now c.room-room.ensures.2 in
    piece_read g.T.Tree.meaning c.args.handle.0 c.args.from c.args.last c.read_at.new.buf (drop c.room-room.result c.args.buffer.now) (length c.args.buffer.now) c.in-Ok.count Whole c.args.tree.now c.read_at.new.self c.requires.some (omega (arith, long, c.room-room.ensures)) (omega (arith, long, c.room-room.ensures)) (omega (arith, c.requires.some, c.in-Ok.ensures.within, long, c.room-room.ensures)) c.in-Ok.ensures.within
    (λ is. let never : Whole ≡ Shrunk = is in cc) c.in-Ok.ensures.cause c.in-Ok.ensures.history c.in-Ok.ensures.nameless c.in-Ok.ensures.plan c.in-Ok.ensures.bound c.in-Ok.ensures.taken c.in-Ok.ensures.widest
