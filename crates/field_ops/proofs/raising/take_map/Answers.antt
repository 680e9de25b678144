use Rattle.std.proofs.Common.{◌∙◌, ap, sym, Option, Some, option_map}
use Rattle.entry_model.specs.Datum.{Datum, datum}
use Rattle.entry_model.specs.LogRecord.{members_in}
use Rattle.entry_model.proofs.Nesting.{keys_ascend}
use Rattle.field_paths.specs.MapOf.{members_seen}
use Rattle.field_paths.specs.Members.{with_member}
use Rattle.field_paths.proofs.Entries.{member_at-seen}
use Rattle.field_paths.proofs.Steps.{member_kept}
use Rattle.field_ops.specs.Outcome.{where_found}
use Rattle.field_ops.specs.Rows.{where_a_map}
use Rattle.field_ops.proofs.Entered.{put_seen}
use Rattle.field_ops.proofs.raising.take_map.Goals as goal

pub returns-in_default-clause-fault : goal.returns-in_default-clause-fault
returns-in_default-clause-fault c = λ then_so.
    ap (λ (o : Option Datum). where_found o (λ value. where_a_map value then_so))
    (member_at-seen c.args.name.now c.args.members.now.entries ∙ ap (option_map datum) (sym c.in_default.ensures.value))

pub returns-in_default-clause-ascend : goal.returns-in_default-clause-ascend
returns-in_default-clause-ascend c = keys_ascend c.args.members.now.entries c.get_mut.ensures.ordered

pub returns-in_default-take_fields-clause-fault : goal.returns-in_default-take_fields-clause-fault
returns-in_default-take_fields-clause-fault c = λ then_so.
    (ap (λ (o : Option Datum). where_found o (λ value. where_a_map value then_so))
    (member_at-seen c.args.name.now c.args.members.now.entries ∙ ap (option_map datum) (sym c.in-Some.ensures.value))
    ∙ c.in_default-take_fields.ensures.no_map then_so)

pub returns-in_default-take_fields-clause-err : goal.returns-in_default-take_fields-clause-err
returns-in_default-take_fields-clause-err c =
    let now = c.take_fields.new.value in
    ap members_in
    (member_kept c.args.name.now c.args.members.now.entries (c.get_mut.follows.lender now).entries c.in-Some.member.now now
    (sym c.in-Some.ensures.value) (c.get_mut.follows.holds now).0 c.in_default-take_fields.ensures.none)

pub returns-in_default-take_fields-clause-ascend : goal.returns-in_default-take_fields-clause-ascend
returns-in_default-take_fields-clause-ascend c = keys_ascend c.args.members.now.entries c.get_mut.ensures.ordered

pub returns-clause-ok : goal.returns-clause-ok
returns-clause-ok c =
    member_at-seen c.args.name.now c.args.members.now.entries ∙ ap (option_map datum) (sym c.in-Some.ensures.value) ∙ ap Some c.in-Some-take_fields.ensures.some

pub returns-clause-taken : goal.returns-clause-taken
returns-clause-taken c =
    let now = c.take_fields.new.value in
    put_seen c.args.name.now now c.in-Some.member.now c.args.members.now.entries (c.get_mut.follows.lender now).entries
    c.get_mut.ensures.ordered (sym c.in-Some.ensures.value) (c.get_mut.follows.holds now).0
    ∙ ap (λ (d : Datum). with_member c.args.name.now d (members_seen c.args.members.now.entries)) c.in-Some-take_fields.ensures.taken

pub returns-clause-ascend : goal.returns-clause-ascend
returns-clause-ascend c = keys_ascend c.args.members.now.entries c.get_mut.ensures.ordered
