use Rattle.std.proofs.Common.{◌+◌, ◌-◌, ◌≤◌, length, arith}
use Rattle.std.specs.List.{position_or_len}
use Rattle.otlp_json.specs.Escaped.{needs_escape}
use Rattle.otlp_json.proofs.Plain.{found_there, none_there, none_to_the_end}
use Rattle.otlp_json.proofs.lanes.plain_length_by_ends.Goals as goal

pub returns-then-found-ne0 : goal.returns-then-found-ne0
returns-then-found-ne0 g c =
    let d = c.args.text.now in
    omega (arith, found_there d 0 g.row.N c.escaped_of-found.result (omega arith) (omega arith) (omega arith) c.escaped_of-found.ensures c.if-found-ne0.true)

pub returns-then-found-ne0-2 : goal.returns-then-found-ne0-2
returns-then-found-ne0-2 g c =
    let d = c.args.text.now in
    let front : 0 + g.row.N ≤ position_or_len needs_escape d = none_there d 0 g.row.N c.escaped_of-found.result (omega arith) (omega arith) c.escaped_of-found.ensures c.if-found-ne0.false in
    found_there d (length d - g.row.N) g.row.N c.escaped_of-found-2.result (omega arith) (omega arith) (omega arith) c.escaped_of-found-2.ensures c.if-found-ne0-2.true

pub returns : goal.returns
returns g c =
    let d = c.args.text.now in
    let front : 0 + g.row.N ≤ position_or_len needs_escape d = none_there d 0 g.row.N c.escaped_of-found.result (omega arith) (omega arith) c.escaped_of-found.ensures c.if-found-ne0.false in
    none_to_the_end d (length d - g.row.N) g.row.N c.escaped_of-found-2.result (omega arith) (omega arith) c.escaped_of-found-2.ensures c.if-found-ne0-2.false
