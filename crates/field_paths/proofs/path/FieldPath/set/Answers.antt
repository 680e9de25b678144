use Rattle.std.proofs.lemmas.Result.{IfErr-weaker}
use Rattle.entry_model.specs.Datum.{datum, Members}
use Rattle.entry_model.specs.LogRecord.{log_record}
use Rattle.field_paths.proofs.Cases.{of_its_members}
use Rattle.field_paths.proofs.path.FieldPath.set.Goals as goal

pub returns-in-Attributes-clause-not_a_map : goal.returns-in-Attributes-clause-not_a_map
returns-in-Attributes-clause-not_a_map c =
    let map = of_its_members (datum c.args.entry.now.attributes) c.args.entry.now.attributes_are_a_map in
    rw (← c.self.view_is, c.in-Attributes.is, ← c.as_slice-names.ensures.value, ← map)
    (IfErr-weaker c.put_in_map.result _ _ (λ fault refused e. refused e (λ (members : Members). record (log_record c.args.entry.now) { attributes = members })) c.put_in_map.ensures.not_a_map)

pub returns-in-Resource-clause-not_a_map : goal.returns-in-Resource-clause-not_a_map
returns-in-Resource-clause-not_a_map c =
    let map = of_its_members (datum c.args.entry.now.resource) c.args.entry.now.resource_is_a_map in
    rw (← c.self.view_is, c.in-Resource.is, ← c.as_slice-names.ensures.value, ← map)
    (IfErr-weaker c.put_in_map-in-Resource.result _ _ (λ fault refused e. refused e (λ (members : Members). record (log_record c.args.entry.now) { resource = members })) c.put_in_map-in-Resource.ensures.not_a_map)
