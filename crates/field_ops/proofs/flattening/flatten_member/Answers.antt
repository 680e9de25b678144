use Rattle.std.proofs.Common.{◌∙◌, ap, sym, option_map, Option, Some}
use Rattle.entry_model.specs.Datum.{Datum, datum}
use Rattle.entry_model.specs.declared.value.Value.{Value}
use Rattle.entry_model.proofs.Data.{datum_map}
use Rattle.field_paths.specs.MapOf.{members_seen}
use Rattle.field_ops.specs.Outcome.{where_found}
use Rattle.field_ops.specs.Rows.{where_a_map}
use Rattle.field_ops.proofs.Held.{held, no_map_refused, raised_held}
use Rattle.field_ops.proofs.flattening.flatten_member.Goals as goal

pub returns-in_default-remove-clause-fault : goal.returns-in_default-remove-clause-fault
returns-in_default-remove-clause-fault c = λ apart then_so.
    (let same = ap datum (sym c.in-Map.is) ∙ c.in_ok-members.ensures in
    let none = held (datum c.args.holder.now) c.in-Map.members c.args.name.now same ∙ ap (option_map datum) (sym c.in_default-remove.ensures.value) in
    ap (λ (o : Option Datum). where_found o (λ value. where_a_map value then_so)) none)

pub returns-in_default-member : goal.returns-in_default-member
returns-in_default-member c = record {
  ok = tt;
  fault = λ apart then_so.
      (let same = ap datum (sym c.in-Map.is) ∙ c.in_ok-members.ensures in
      let there = held (datum c.args.holder.now) c.in-Map.members c.args.name.now same ∙ ap (option_map datum) (sym c.in-Some.ensures.value) in
      ap (λ (o : Option Datum). where_found o (λ value. where_a_map value then_so)) there ∙ no_map_refused c.in-Some.member then_so c.in_default-member.not-Map);
}

pub returns-clause-ok : goal.returns-clause-ok
returns-clause-ok c =
    let same = ap datum (sym c.in-Map.is) ∙ c.in_ok-members.ensures in
    let there = held (datum c.args.holder.now) c.in-Map.members c.args.name.now same ∙ ap (option_map datum) (sym c.in-Some.ensures.value) in (
      members_seen c.in-Map-member.raised.entries,
      there ∙ ap (λ (v : Value). Some (datum v)) c.in-Map-member.is ∙ ap Some (datum_map c.in-Map-member.raised),
      raised_held (datum c.args.holder.now) c.in-Map.members c.remove.new.self c.in_ok-all.all c.in-Map-member.raised c.args.name.now same c.remove.ensures.entries c.in_ok-all.ensures,
    )
