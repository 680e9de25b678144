use Rattle.std.proofs.Common.{arith}
use Rattle.out_segments.specs.MemParts.{history_of}
use Rattle.out_segments.proofs.MemCrashing.{crashed_start, crashed_more, crashed_whole}
use Rattle.out_segments.proofs.memory.MemParts.crash.Goals as goal

pub loop-number-init : goal.loop-number-init
loop-number-init c =
    let empty = c.in_ok-after.ensures.empty in
    let durable = c.in_ok-after.ensures.durable in
    crashed_start c.args.outcome (history_of c.args.self) c.in_ok-after.after c.carry.new.after c.carry-2.new.after c.carry-3.new.after
    (λ file. record { empty = empty file; durable = durable file })
    c.in_ok-carry.ensures.carried c.in_ok-carry.ensures.others
    c.in_ok-carry-2.ensures.carried c.in_ok-carry-2.ensures.others
    c.in_ok-carry-3.ensures.carried c.in_ok-carry-3.ensures.others
    (c.in_ok-carry-3.ensures.fresh (c.in_ok-carry-2.ensures.fresh (c.in_ok-carry.ensures.fresh c.in_ok-after.ensures.fresh)))

pub loop-number-preserved : goal.loop-number-preserved
loop-number-preserved c =
    let was = c.loop-number.invariant in
    crashed_more c.args.outcome (history_of c.args.self) c.loop-number.number c.loop-number.after c.carry-in-loop-number.new.after was c.in_ok-carry-4.ensures.carried c.in_ok-carry-4.ensures.others (c.in_ok-carry-4.ensures.fresh was.fresh)

pub returns-clause-image : goal.returns-clause-image
returns-clause-image c = λ file. (crashed_whole c.args.outcome (history_of c.args.self) c.loop-number.number c.parts_held-number-end.result c.loop-number.after (omega arith) c.parts_held-number-end.ensures.others c.loop-number.invariant file).leaves

pub returns-clause-durable : goal.returns-clause-durable
returns-clause-durable c = λ file. (crashed_whole c.args.outcome (history_of c.args.self) c.loop-number.number c.parts_held-number-end.result c.loop-number.after (omega arith) c.parts_held-number-end.ensures.others c.loop-number.invariant file).durable

pub returns-clause-torn : goal.returns-clause-torn
returns-clause-torn c = λ file. (crashed_whole c.args.outcome (history_of c.args.self) c.loop-number.number c.parts_held-number-end.result c.loop-number.after (omega arith) c.parts_held-number-end.ensures.others c.loop-number.invariant file).torn

pub returns-clause-fresh : goal.returns-clause-fresh
returns-clause-fresh c = c.loop-number.invariant.fresh
