use Rattle.std.proofs.Common.{◌+◌, length, arith, ap, sym, subst, ◌∙◌}
use Rattle.std.specs.Prelude.{nat_lt}
use Rattle.recombine.specs.Limits.{byte_limit}
use Rattle.recombine.specs.Steps.{text_bytes}
use Rattle.recombine.specs.Table.{IsPlace, item_seen}
use Rattle.recombine.proofs.StepLemmas.{full_none, room_by_bytes, room_by_bytes_at}
use Rattle.recombine.proofs.joining.Recombine.has_no_room.Goals as goal

pub returns-then-len-ge-GROUP_LIMIT : goal.returns-then-len-ge-GROUP_LIMIT
returns-then-len-ge-GROUP_LIMIT c =
    sym (full_none c.args.self.now (item_seen c.args.x.now) c.args.groups.now (subst (IsPlace c.args.x.now.source c.args.groups.now) c.in_default.is c.requires)
    (omega (arith, c.len.ensures.value, c.if-len-ge-GROUP_LIMIT.true)))

pub returns-in_default : goal.returns-in_default
returns-in_default c =
    c.is_too_long.ensures ∙ ap (λ n. nat_lt byte_limit (n + 0 + c.len-in_default.result)) c.bytes.ensures.value
    ∙ ap (λ n. nat_lt byte_limit (text_bytes c.args.groups.now + 0 + n)) c.len-in_default.ensures
    ∙ sym (room_by_bytes c.args.self.now (item_seen c.args.x.now) c.args.groups.now (subst (IsPlace c.args.x.now.source c.args.groups.now) c.in_default.is c.requires)
    (omega (arith, c.len.ensures.value, c.if-len-ge-GROUP_LIMIT.false)))

pub returns : goal.returns
returns c =
    c.is_too_long-2.ensures ∙ ap (λ n. nat_lt byte_limit (n + length c.separator.result.now + c.len-2.result)) c.bytes-2.ensures.value
    ∙ ap (λ n. nat_lt byte_limit (text_bytes c.args.groups.now + length c.separator.result.now + n)) c.len-2.ensures
    ∙ ap (λ t. nat_lt byte_limit (text_bytes c.args.groups.now + length t + length c.args.x.now.text)) c.separator.ensures
    ∙ sym (room_by_bytes_at c.args.self.now (item_seen c.args.x.now) c.args.groups.now c.in-Some._place (subst (IsPlace c.args.x.now.source c.args.groups.now) c.in-Some.is c.requires) c.bytes-2.ensures.few)
