use Rattle.std.proofs.Common.{◌≡◌, length, take, arith}
use Rattle.std.proofs.lemmas.List.{append_assoc, take_all, length-take-le}
use Rattle.otlp_json.proofs.member.put_member.Goals as goal

pub put-made-requires-2 : goal.put-made-requires-2
put-made-requires-2 c =
    let opened : length (take 9 c.args.opening.now) ≡ 9 = length-take-le 9 c.args.opening.now (omega arith) in
    omega (arith, c.put-made.ensures.made, c.in_ok-made.ensures.made)

pub put_plain-requires-2 : goal.put_plain-requires-2
put_plain-requires-2 c =
    let opened : length (take 9 c.args.opening.now) ≡ 9 = length-take-le 9 c.args.opening.now (omega arith) in
    omega (arith, c.put-made.ensures.made, c.in_ok-made.ensures.made, c.put-made-2.ensures.made)

pub put-requires : goal.put-requires
put-requires c =
    let opened : length (take 9 c.args.opening.now) ≡ 9 = length-take-le 9 c.args.opening.now (omega arith) in
    omega (arith, c.put-made.ensures.made, c.in_ok-made.ensures.made, c.put-made-2.ensures.made, c.in_ok-made-2.ensures.made)

pub returns-clause-bytes : goal.returns-clause-bytes
returns-clause-bytes c =
    let opening = c.args.opening.now in
    let whole : take 9 opening ≡ opening = take_all 9 opening (omega arith) in
    rw (c.put.ensures.bytes, c.in_ok-made-2.ensures.bytes, c.put-made-2.ensures.bytes, c.in_ok-made.ensures.bytes, c.put-made.ensures.bytes, whole) (simp append_assoc)
