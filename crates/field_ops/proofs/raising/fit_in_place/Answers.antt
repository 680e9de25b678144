use Rattle.std.proofs.Common.{◌+◌, drop}
use Rattle.field_ops.proofs.Entered.{left_from, next_apart}
use Rattle.field_ops.proofs.raising.fit_in_place.Goals as goal

pub loop-name-preserved : goal.loop-name-preserved
loop-name-preserved c = λ rest.
    let all = c.members-name-items.result.now in
    let i = c.loop-name.name-index in
    let e = c.loop-name-item.result in
    c.loop-name.invariant
    (next_apart e.0 e.1 (drop i all) (drop (i + 1) all) c.args.members.now.entries c.contains_key.result
    (left_from all i e c.loop-name-test.true c.loop-name-item.is) c.contains_key.ensures c.if-contains_key.false rest)
