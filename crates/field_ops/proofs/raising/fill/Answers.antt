use Rattle.std.proofs.Common.{◌≡◌, ◌∷◌, ap, arith, length}
use Rattle.std.specs.Vec.Iter.{into_iter_items}
use Rattle.field_paths.specs.MapOf.{members_seen}
use Rattle.field_ops.specs.Rows.{with_members}
use Rattle.field_ops.proofs.Entered.{next_named, one_filled}
use Rattle.field_ops.proofs.raising.fill.Goals as goal

pub put-requires : goal.put-requires
put-requires c =
    next_named c.in-Some.name c.in-Some.value (into_iter_items c.loop-name.name-iterator) (into_iter_items c.next.new.self) (members_seen c.loop-name.members.entries)
    c.in-Some.ensures.steps.0 c.loop-name.invariant.named

pub loop-name-preserved-in-Some : goal.loop-name-preserved-in-Some
loop-name-preserved-in-Some c =
    let at = c.loop-name in
    let steps : into_iter_items at.name-iterator ≡ (c.in-Some.name, c.in-Some.value) ∷ into_iter_items c.next.new.self = c.in-Some.ensures.steps.0 in
    let filled = one_filled c.in-Some.name c.in-Some.value (into_iter_items at.name-iterator) (into_iter_items c.next.new.self) (members_seen at.members.entries)
    (members_seen c.put.new.members.entries) (with_members (members_seen c.args.raised.entries) (members_seen c.args.members.now.entries)) steps c.put.ensures at.invariant.named at.invariant.makes in
    record {
      named = filled.0;
      makes = filled.1;
      len = (
          let was = at.invariant.len in
          let gone = c.in-Some.ensures.steps.1 in
          let short = ap length steps in
          omega (arith, was, gone, short)
          );
    }

pub loop-name-preserved : goal.loop-name-preserved
loop-name-preserved c =
    let at = c.loop-name in
    let steps : into_iter_items at.name-iterator ≡ (c.in-Some.name, c.in-Some.value) ∷ into_iter_items c.next.new.self = c.in-Some.ensures.steps.0 in
    let filled = one_filled c.in-Some.name c.in-Some.value (into_iter_items at.name-iterator) (into_iter_items c.next.new.self) (members_seen at.members.entries)
    (members_seen c.put.new.members.entries) (with_members (members_seen c.args.raised.entries) (members_seen c.args.members.now.entries)) steps c.put.ensures at.invariant.named at.invariant.makes in
    record {
      named = filled.0;
      makes = filled.1;
      len = (
          let was = at.invariant.len in
          let gone = c.in-Some.ensures.steps.1 in
          let short = ap length steps in
          omega (arith, was, gone, short)
          );
    }
