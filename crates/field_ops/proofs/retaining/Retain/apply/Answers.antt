use Rattle.std.proofs.Common.{◌∙◌, ap, List}
use Rattle.entry_model.specs.LogRecord.{log_record}
use Rattle.field_paths.specs.Place.{Place}
use Rattle.field_ops.specs.Roots.{is_body, is_attributes, is_resource, any_root, with_roots}
use Rattle.field_ops.specs.Rows.{with_listed}
use Rattle.field_ops.proofs.Rooted.{retained_by_roots}
use Rattle.field_ops.proofs.retaining.Retain.apply.Goals as goal

pub returns-clause-ok : goal.returns-clause-ok
returns-clause-ok c =
    let listed = c.args.self.now.fields.items in
    let before = log_record c.args.entry.now in
    let kept = log_record c.keep_listed.new.kept in
    retained_by_roots listed before kept (log_record c.move_roots.new.entry)
    (c.in_ok-keep_listed.ensures
    ∙ ap (λ (l : List Place). with_listed l before (log_record c.with_empty_maps-kept.result)) c.deref-2.ensures.value
    ∙ ap (with_listed listed before) c.with_empty_maps-kept.ensures)
    (c.move_roots.ensures ∙ ap (λ (l : List Place). with_roots (any_root is_body l) (any_root is_attributes l) (any_root is_resource l) kept before) c.deref-3.ensures.value)
