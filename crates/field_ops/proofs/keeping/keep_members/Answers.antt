use Rattle.std.proofs.Common.{refl}
use Rattle.entry_model.specs.Datum.{datum}
use Rattle.entry_model.specs.LogRecord.{log_record}
use Rattle.field_ops.specs.Kept.{any_at_member}
use Rattle.field_ops.specs.Roots.{is_body, is_attributes, is_resource, any_root}
use Rattle.field_ops.proofs.Kept.{ascending, roots_put, members_retained}
use Rattle.field_ops.proofs.keeping.keep_members.Goals as goal

pub returns : goal.returns
returns c =
    let listed = c.args.listed.now in
    let before = log_record c.args.entry.now in
    let body = any_root is_body listed in
    let attributes = any_root is_attributes listed in
    let resource = any_root is_resource listed in
    members_retained listed before _ c.requires
    (ascending body attributes resource before c.keep_in_root.ensures.ascend c.keep_in_root-2.ensures.ascend c.keep_in_root-3.ensures.ascend)
    (roots_put body attributes resource (any_at_member listed) before (datum c.args.entry.now.attributes) (datum c.args.entry.now.resource)
    (datum c.keep_in_root.new.value) (datum c.keep_in_root-2.new.value) (datum c.keep_in_root-3.new.value) refl refl
    c.keep_in_root.ensures.kept c.keep_in_root-2.ensures.kept c.keep_in_root-3.ensures.kept)
