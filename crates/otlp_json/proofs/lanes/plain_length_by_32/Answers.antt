use Rattle.std.proofs.Common.{◌-◌, length, arith}
use Rattle.otlp_json.proofs.Plain.{found_there, none_there, none_to_the_end}
use Rattle.otlp_json.proofs.lanes.plain_length_by_32.Goals as goal

pub returns-then-found-ne0 : goal.returns-then-found-ne0
returns-then-found-ne0 c =
    found_there c.args.text.now c.loop-at.at 32 c.escaped_of-found.result c.loop-at.invariant (omega arith) (omega arith) c.escaped_of-found.ensures c.if-found-ne0.true

pub loop-at-preserved : goal.loop-at-preserved
loop-at-preserved c =
    none_there c.args.text.now c.loop-at.at 32 c.escaped_of-found.result c.loop-at.invariant (omega arith) c.escaped_of-found.ensures c.if-found-ne0.false

pub returns-then-found-ne0-2 : goal.returns-then-found-ne0-2
returns-then-found-ne0-2 c =
    let d = c.args.text.now in
    found_there d (length d - 32) 32 c.escaped_of-found-2.result (let front = c.loop-at.invariant in omega arith) (omega arith) (omega arith) c.escaped_of-found-2.ensures c.if-found-ne0-2.true

pub returns : goal.returns
returns c =
    let d = c.args.text.now in
    none_to_the_end d (length d - 32) 32 c.escaped_of-found-2.result (let front = c.loop-at.invariant in omega arith) (omega arith) c.escaped_of-found-2.ensures c.if-found-ne0-2.false
