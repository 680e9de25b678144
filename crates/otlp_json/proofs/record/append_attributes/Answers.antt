use Rattle.std.proofs.Common.{codes, refl}
use Rattle.otlp_json.proofs.Appended.{last_extended}
use Rattle.entry_model.proofs.Data.{datum_map}
use Rattle.otlp_json.proofs.Members.{no_members_in}
use Rattle.otlp_json.proofs.record.append_attributes.Goals as goal

pub returns-clause-ok : goal.returns-clause-ok
returns-clause-ok c = rw (c.in-Map.is, datum_map c.in-Map.fields) c.append_fields.ensures.ok

pub returns-in_default-clause-ok : goal.returns-in_default-clause-ok
returns-in_default-clause-ok c =
    let last = c.extend_from_slice in
    rw (no_members_in c.args.attributes.now c.in_default.not-Map)
    (last_extended last.result c.args.out.now.items last.new.self.items (codes "[") _ last.ensures.items refl)
