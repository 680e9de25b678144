use Rattle.slot_store.proofs.Frames.{parts_are}
use Rattle.slot_store.proofs.frame.parts_of.Goals as goal

pub returns-clause-parts : goal.returns-clause-parts
returns-clause-parts c =
    let gate = c.in_ok-gate.ensures.cases in
    let first = c.in_ok-sequence.ensures.cases in
    let second = c.in_ok-length.ensures.cases in
    parts_are c.args.front.now c.in_ok-gate.rest.now c.in_ok-sequence.sequence.now c.in_ok-sequence.rest.now c.in_ok-length.length.now c.in_ok-length.field-0-1.now c.in_ok-gate.gate.now c.from_be_bytes.result c.from_be_bytes-2.result gate.0 first.0 first.1 first.2 second.0 second.2 c.from_be_bytes.ensures c.from_be_bytes-2.ensures
