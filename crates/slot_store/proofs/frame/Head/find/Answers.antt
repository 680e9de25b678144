use Rattle.std.proofs.Common.{◌≡◌, length, sym, arith}
use Rattle.slot_store.proofs.Frames.{front_filled}
use Rattle.slot_store.proofs.frame.Head.find.Goals as goal

pub returns-clause-head : goal.returns-clause-head
returns-clause-head g c told =
    let seen = g.D.Disk.meaning.images.seen c.args.disk.now c.args.file in
    let long : length c.fill.new.buf ≡ 17 = omega (arith, c.fill.auto.buf) in
    c.read.ensures seen (sym (c.in_ok-size.ensures.length told))
    (front_filled c.args.place c.in_ok-count.count seen c.fill.new.buf long (rw c.in_ok-size.ensures.seen at (c.in_ok-count.ensures.bytes (rw c.in_ok-size.ensures.tells told))))
