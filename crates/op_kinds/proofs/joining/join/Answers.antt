use Rattle.std.proofs.Common.{ap, ◌∙◌}
use Rattle.std.specs.Prelude.{option_map}
use Rattle.entry_model.specs.LogRecord.{log_record}
use Rattle.op_kinds.specs.Inner.Applied.{IsApplied, effect}
use Rattle.op_kinds.specs.Grouping.{arrival, joined_in}
use Rattle.op_kinds.specs.Kept.{Kept, open_groups}
use Rattle.op_kinds.specs.Kept as kept
use Rattle.op_kinds.specs.Operator.{with_groups}
use Rattle.recombine.specs.Stepped.{seen}
use Rattle.op_kinds.proofs.Joined.{if_ok_at, joined_done, joined_not_text, joined_too_deep}
use Rattle.op_kinds.proofs.joining.join.Goals as goal

pub returns-in_ok-put_out-in-Ok : goal.returns-in_ok-put_out-in-Ok
returns-in_ok-put_out-in-Ok c =
    joined_done c.args.recombine.now (arrival c.args.source.now c.args.mark (log_record c.args.entry)) (log_record c.args.entry) c.args.state.now c.take_groups-opened.result c.step.new.groups
    (seen c.new-sent.result.items) (seen c.step.new.out.items) c.with_groups.result c.args.out.now.items c.put_out.new.out.items c.take_groups-opened.ensures.taken c.in-Ok.ensures (ap seen c.new-sent.ensures.items)
    c.with_groups.ensures c.in_ok-put_out-in-Ok.ensures

pub returns-in-Err-NotText : goal.returns-in-Err-NotText
returns-in-Err-NotText c =
    let made = option_map with_groups (joined_in c.args.recombine.now (open_groups c.args.state.now) (arrival c.args.source.now c.args.mark (log_record c.args.entry))) in
    if_ok_at c.given_back.result _ (IsApplied made (log_record c.args.entry) (effect c.args.state.now c.given_back.new.state c.args.out.now.items c.args.out.now.items)) c.given_back.ensures.given
    (joined_not_text c.args.recombine.now (arrival c.args.source.now c.args.mark (log_record c.args.entry)) (log_record c.args.entry) c.args.state.now c.in-Err-NotText.entry c.take_groups-opened.result c.step.new.groups
    (seen c.new-sent.result.items) (seen c.step.new.out.items) c.given_back.new.state c.args.out.now.items c.take_groups-opened.ensures.taken (rw c.in-Err-NotText.field-0-is at c.in-Err-NotText.ensures)
    (c.given_back.ensures.kept ∙ ap (λ (k : Kept). kept.with_groups k c.step.new.groups) c.take_groups-opened.ensures.left))

pub returns-in-Err-TooDeep : goal.returns-in-Err-TooDeep
returns-in-Err-TooDeep c =
    let made = option_map with_groups (joined_in c.args.recombine.now (open_groups c.args.state.now) (arrival c.args.source.now c.args.mark (log_record c.args.entry))) in
    if_ok_at c.given_back-in-Err-TooDeep.result _ (IsApplied made (log_record c.args.entry) (effect c.args.state.now c.given_back-in-Err-TooDeep.new.state c.args.out.now.items c.args.out.now.items)) c.given_back-in-Err-TooDeep.ensures.given
    (joined_too_deep c.args.recombine.now (arrival c.args.source.now c.args.mark (log_record c.args.entry)) (log_record c.args.entry) c.args.state.now c.in-Err-TooDeep.entry c.take_groups-opened.result c.step.new.groups
    (seen c.new-sent.result.items) (seen c.step.new.out.items) c.given_back-in-Err-TooDeep.new.state c.args.out.now.items c.take_groups-opened.ensures.taken (rw c.in-Err-TooDeep.field-0-is at c.in-Err-TooDeep.ensures)
    (c.given_back-in-Err-TooDeep.ensures.kept ∙ ap (λ (k : Kept). kept.with_groups k c.step.new.groups) c.take_groups-opened.ensures.left))
