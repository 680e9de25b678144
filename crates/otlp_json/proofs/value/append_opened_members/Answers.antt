use Rattle.std.proofs.Common.{arith, ◌≤◌, ◌++◌, ◌∙◌, ap, length}
use Rattle.otlp_json.proofs.Appended.{front_trans}
use Rattle.field_paths.specs.MapOf.{members_seen}
use Rattle.otlp_json.proofs.Opened.{opened, opened_is, all_opened}
use Rattle.otlp_json.proofs.value.append_opened_members.Goals as goal

pub returns-in_err-append_member-clause-front : goal.returns-in_err-append_member-clause-front
returns-in_err-append_member-clause-front c =
    front_trans c.args.out.now.items c.loop-key.out.items c.append_member.new.out.items c.loop-key.invariant.front c.in_err-append_member.ensures.front

pub returns-clause-ok : goal.returns-clause-ok
returns-clause-ok c before opening =
    let start = c.args.out.now.items in
    let es = c.args.members.now in
    let none_left : length es ≤ c.loop-key.key-index = omega (arith, c.loop-key-test.false) in
    all_opened c.loop-key.front.now c.args.opening.now start c.loop-key.out.items es c.loop-key.key-index none_left c.loop-key.invariant.so_far
    ∙ ap (λ front. start ++ opened front (members_seen es)) opening
    ∙ ap (λ text. start ++ text) (opened_is before (members_seen es))
