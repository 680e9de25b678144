use Rattle.std.proofs.Common.{◌∙◌, ap, sym, Option}
use Rattle.std.proofs.lemmas.Result.{err_from_is_err_and}
use Rattle.entry_model.specs.Datum.{Datum, datum, Members}
use Rattle.entry_model.specs.LogRecord.{log_record, members_in}
use Rattle.field_paths.specs.Change.{set_at}
use Rattle.field_paths.specs.Members.{member_at}
use Rattle.field_ops.specs.Outcome.{Outcome, where_found, or_refused}
use Rattle.field_ops.specs.Rows.{raised_in, where_a_map}
use Rattle.field_ops.proofs.flattening.Flatten.flatten_below.Goals as goal

pub returns-in_err-changed-clause-fault : goal.returns-in_err-changed-clause-fault
returns-in_err-changed-clause-fault c =
    let p = err_from_is_err_and c.from_residual.result c.from_residual.ensures.1 in
    let parent = c.args.self.now.parent in
    let name = c.args.self.now.name in
    let entry = log_record c.args.entry.now in
    let put : Datum → Members → Outcome = λ holder raised. or_refused (set_at parent (raised_in name holder raised) entry) in
    rw (p.1, p.2) (λ apart.
    (ap (λ (o : Option Datum). where_found o (λ holder. where_found (member_at name (members_in holder)) (λ value. where_a_map value (put holder)))) (sym c.in-Some.ensures)
    ∙ c.in_err-changed.ensures.fault apart (put (datum c.in-Some.holder.now))))
