use Rattle.std.proofs.Common.{arith}
use Rattle.whole_runs.proofs.Taking.{front_empty, back_empty, told, front_earlier, back_earlier, neither_earlier}
use Rattle.std.proofs.lemmas.List.{nil_from_length}
use Rattle.whole_runs.proofs.ascending.whose_turn.Goals as goal

pub returns-in_default : goal.returns-in_default
returns-in_default g c = front_empty c.args.front.now.items c.args.back.now.items (nil_from_length c.args.front.now.items (omega (arith, c.in_default.ensures.item, c.args.front.now.ok.0)))

pub returns-in_default-front : goal.returns-in_default-front
returns-in_default-front g c = back_empty c.args.front.now.items c.args.back.now.items (nil_from_length c.args.back.now.items (omega (arith, c.in_default-front.ensures.item, c.args.back.now.ok.0)))

pub returns-then-is_before : goal.returns-then-is_before
returns-then-is_before g c =
    front_earlier c.args.front.now.items c.args.back.now.items c.in-Some.first.now c.in-Some-front.other.now (omega (arith, c.in-Some.ensures.item.3.0)) c.in-Some.ensures.lookup c.in-Some-front.ensures.lookup
    (told _ _ c.in-Some.first.now c.in-Some-front.other.now _ c.at.ensures c.at-2.ensures c.if-is_before.ensures) c.requires.back

pub returns-then-is_before-2 : goal.returns-then-is_before-2
returns-then-is_before-2 g c =
    back_earlier c.args.front.now.items c.args.back.now.items c.in-Some.first.now c.in-Some-front.other.now (omega (arith, c.in-Some-front.ensures.item.3.0)) c.in-Some.ensures.lookup c.in-Some-front.ensures.lookup
    (told _ _ c.in-Some-front.other.now c.in-Some.first.now _ c.at-3.ensures c.at-4.ensures c.if-is_before-2.ensures) c.requires.front

pub returns : goal.returns
returns g c =
    neither_earlier c.args.front.now.items c.args.back.now.items c.in-Some.first.now c.in-Some-front.other.now (omega (arith, c.in-Some.ensures.item.3.0)) (omega (arith, c.in-Some-front.ensures.item.3.0))
    c.in-Some.ensures.lookup c.in-Some-front.ensures.lookup
    (told _ _ c.in-Some.first.now c.in-Some-front.other.now _ c.at.ensures c.at-2.ensures c.if-is_before.ensures)
    (told _ _ c.in-Some-front.other.now c.in-Some.first.now _ c.at-3.ensures c.at-4.ensures c.if-is_before-2.ensures)
