use Rattle.std.proofs.Common.{◌+◌, ◌∙◌, ap, subst, drop, ℕ, List}
use Rattle.std.proofs.lemmas.List.{drop_all}
use Rattle.entry_model.specs.declared.value.Value.{Value}
use Rattle.field_paths.specs.MapOf.{members_seen}
use Rattle.field_ops.specs.Inner.Names.{without_members}
use Rattle.field_ops.proofs.Raised.{Put, none_put, all_put, disjoint_left}
use Rattle.field_ops.proofs.Entered.{left_from, one_reserved}
use Rattle.field_ops.proofs.raising.reserve.Goals as goal

pub loop-name-init : goal.loop-name-init
loop-name-init c = rw c.members-name-items.ensures.members (none_put (members_seen c.args.raised.now.entries) (members_seen c.args.members.now.entries))

pub returns-in-Err-clause-err : goal.returns-in-Err-clause-err
returns-in-Err-clause-err c =
    let raised = members_seen c.args.raised.now.entries in
    c.remove_all.ensures ∙ ap (without_members raised) c.in-Err.ensures.err ∙ c.loop-name.invariant.left
    ∙ disjoint_left raised (members_seen c.args.members.now.entries) c.requires

pub loop-name-preserved : goal.loop-name-preserved
loop-name-preserved c =
    let all = c.members-name-items.result.now in
    let i = c.loop-name.name-index in
    let e = c.loop-name-item.result in
    one_reserved e.0 e.1 (drop i all) (drop (i + 1) all) (members_seen c.args.raised.now.entries) (members_seen c.args.members.now.entries)
    (members_seen c.loop-name.members.entries) (members_seen c.reserve_name.new.members.entries) (left_from all i e c.loop-name-test.true c.loop-name-item.is)
    c.in_default.ensures.ok c.in_default.ensures.ascend c.loop-name.invariant

pub returns-clause-put : goal.returns-clause-put
returns-clause-put c = c.loop-name.invariant.put

pub returns-clause-named : goal.returns-clause-named
returns-clause-named c =
    let raised = members_seen c.args.raised.now.entries in
    let before = members_seen c.args.members.now.entries in
    let now = members_seen c.loop-name.members.entries in
    all_put raised before now
    (subst (λ (left : List (List ℕ × Value)). Put raised before (members_seen left) now) (drop_all c.loop-name.name-index c.members-name-items.result.now c.loop-name-test.false) c.loop-name.invariant)
