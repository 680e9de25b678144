use Rattle.entry_model.specs.LogRecord.{log_record}
use Rattle.field_ops.proofs.Rooted.{moved_one_by_one}
use Rattle.field_ops.proofs.retaining.move_roots.Goals as goal

pub returns : goal.returns
returns c =
    moved_one_by_one c.begins_any.result c.begins_any-2.result c.begins_any-3.result c.args.fields.now (log_record c.args.kept) (log_record c.args.entry.now)
    (log_record c.move_body.new.entry) (log_record c.move_attributes.new.entry) (log_record c.move_resource.new.entry)
    c.begins_any.ensures c.begins_any-2.ensures c.begins_any-3.ensures c.move_body.ensures c.move_attributes.ensures c.move_resource.ensures
