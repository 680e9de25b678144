use Rattle.std.proofs.Common.{◌∙◌, ap, sym}
use Rattle.entry_model.specs.Datum.{Datum, text, fields}
use Rattle.entry_model.specs.declared.value.Value.TheVariants.{Text}
use Rattle.entry_model.proofs.Data.{datum_map, datum_text}
use Rattle.field_paths.proofs.Entries.{with_member-seen}
use Rattle.field_paths.specs.MapOf.{members_seen}
use Rattle.field_paths.specs.Members.{with_member}
use Rattle.container_parser.proofs.entry.with_text.Goals as goal

pub returns : goal.returns
returns c =
    rw datum_map (ap fields
    (ap members_seen c.in_ok-insert.ensures
    ∙ sym (with_member-seen c.args.name.now (Text c.args.content) c.members_of-members.result.entries)
    ∙ ap (λ (d : Datum). with_member c.args.name.now d (members_seen c.members_of-members.result.entries)) (datum_text c.args.content)
    ∙ ap (with_member c.args.name.now (text c.args.content)) c.members_of-members.ensures))
