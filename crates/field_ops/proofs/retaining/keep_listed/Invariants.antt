use Rattle.std.proofs.Common.{◌≡◌, drop}
use Rattle.entry_model.specs.LogRecord.{log_record}
use Rattle.field_ops.specs.Rows.{with_listed}
use Rattle.field_ops.proofs.retaining.keep_listed.Given as goal

abbrev pub invariant-loop-field : goal.invariant-loop-field
invariant-loop-field l = with_listed (drop l.field-index l.fields) (log_record l.whole) (log_record l.kept) ≡ with_listed l.fields (log_record l.whole) (log_record l.initial.kept)
