use Rattle.std.proofs.Common.{◌+◌, ap, refl, subst, drop, ℕ, List}
use Rattle.std.specs.Result.{is_ok}
use Rattle.std.proofs.lemmas.List.{drop_all}
use Rattle.entry_model.specs.declared.value.Value.{Value}
use Rattle.field_paths.specs.MapOf.{members_seen}
use Rattle.field_ops.specs.Rows.{with_members}
use Rattle.field_ops.proofs.Entered.{left_from}
use Rattle.field_ops.proofs.Merged.{Merging, merged_all, one_more, one_there}
use Rattle.field_ops.proofs.merging.put_absent.Goals as goal
use Rattle.field_ops.proofs.merging.put_absent.Goals.{in-Err+in_ok-share+in_ok-copy+in_ok-insert_at, in_default}

pub loop-name-init : goal.loop-name-init
loop-name-init c =
    rw c.members-name-items.ensures.members
    record { left_ascends = c.requires.held; now_ascends = c.requires.members; makes = refl }

pub loop-name-preserved : goal.loop-name-preserved
loop-name-preserved c =
    let whole = with_members (members_seen c.args.members.now.entries) (members_seen c.args.held.now.entries) in
    let all = c.members-name-items.result.now in
    let i = c.loop-name.name-index in
    let e = c.loop-name-item.result in
    let next = left_from all i e c.loop-name-test.true c.loop-name-item.is in
    elim c.match-place.branch [
      | in-Err+in_ok-share+in_ok-copy+in_ok-insert_at w ↦
          rw w.members-is
          (one_more whole e.0 w.in_ok-share.field-0 e.1 w.in_ok-copy.field-0 (drop i all) (drop (i + 1) all) c.loop-name.members.entries
          w.insert_at-in-Err.new.self.entries (is_ok c.place.result) next c.place.ensures.tells (ap is_ok w.in-Err.is)
          w.in_ok-insert_at.ensures.entries w.in_ok-share.ensures w.in_ok-copy.ensures c.loop-name.invariant)
      | in_default w ↦
          rw w.members-is
          (one_there whole e.0 e.1 (drop i all) (drop (i + 1) all) c.loop-name.members.entries (is_ok c.place.result) next c.place.ensures.tells (ap is_ok w.in_default.is)
          c.loop-name.invariant)
    ]

pub returns : goal.returns
returns c =
    let whole = with_members (members_seen c.args.members.now.entries) (members_seen c.args.held.now.entries) in
    let now = members_seen c.loop-name.members.entries in
    merged_all whole now
    (subst (λ (left : List (List ℕ × Value)). Merging whole (members_seen left) now) (drop_all c.loop-name.name-index c.members-name-items.result.now c.loop-name-test.false) c.loop-name.invariant)
