use Rattle.std.proofs.Common.{◌∙◌, ap, sym, refl, Some}
use Rattle.entry_model.specs.Datum.{datum}
use Rattle.entry_model.specs.declared.value.Value.TheVariants as value
use Rattle.entry_model.proofs.Data.{datum_map}
use Rattle.field_paths.specs.MapOf.{members_seen}
use Rattle.field_ops.proofs.Raised.{raised_in_place, put_back, null_there}
use Rattle.field_ops.proofs.raising.raise_among.Goals as goal

pub put-requires : goal.put-requires
put-requires c =
    let nulled = members_seen c.take_map.new.members.entries in
    null_there c.args.name.now (members_seen c.args.members.now.entries) nulled nulled c.in_ok-raised.ensures.taken refl

pub returns-then-not-fit_in_place-clause-unchanged : goal.returns-then-not-fit_in_place-clause-unchanged
returns-then-not-fit_in_place-clause-unchanged c = λ _.
    let raised = c.in_ok-raised.raised in
    let nulled = members_seen c.take_map.new.members.entries in
    put_back c.args.name.now (datum (value.Map raised)) (members_seen c.args.members.now.entries) nulled nulled (members_seen c.put.new.members.entries)
    c.in_ok-raised.ensures.ascend (c.in_ok-raised.ensures.ok ∙ ap Some (sym (datum_map raised))) c.in_ok-raised.ensures.taken refl c.put.ensures

pub put-requires-in-Err : goal.put-requires-in-Err
put-requires-in-Err c =
    null_there c.args.name.now (members_seen c.args.members.now.entries) (members_seen c.take_map.new.members.entries) (members_seen c.reserve.new.members.entries)
    c.in_ok-raised.ensures.taken c.in-Err.ensures.err

pub returns-in-Err-clause-err : goal.returns-in-Err-clause-err
returns-in-Err-clause-err c =
    let raised = c.in_ok-raised.raised in
    put_back c.args.name.now (datum (value.Map raised)) (members_seen c.args.members.now.entries) (members_seen c.take_map.new.members.entries)
    (members_seen c.reserve.new.members.entries) (members_seen c.put-in-Err.new.members.entries) c.in_ok-raised.ensures.ascend
    (c.in_ok-raised.ensures.ok ∙ ap Some (sym (datum_map raised))) c.in_ok-raised.ensures.taken c.in-Err.ensures.err c.put-in-Err.ensures

pub returns-clause-ok : goal.returns-clause-ok
returns-clause-ok c = λ _.
    let raised = members_seen c.in_ok-raised.raised.entries in (
      raised,
      c.in_ok-raised.ensures.ok,
      raised_in_place c.args.name.now raised (members_seen c.args.members.now.entries) (members_seen c.take_map.new.members.entries)
          (members_seen c.reserve.new.members.entries) (members_seen c.fill.new.members.entries) (members_seen c.remove.new.members.entries) c.in_ok-raised.ensures.ascend
          (c.fit_in_place.ensures c.if-not-fit_in_place.false) c.in_ok-raised.ensures.taken c.in_default.ensures.put c.fill.ensures c.remove.ensures,
    )
