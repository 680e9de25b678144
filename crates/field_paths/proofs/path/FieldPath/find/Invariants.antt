use Rattle.std.proofs.Common.{◌≡◌, drop}
use Rattle.entry_model.specs.Datum.{datum}
use Rattle.entry_model.specs.LogRecord.{log_record}
use Rattle.field_paths.specs.InOrder.{AscendDown, IsInOrder}
use Rattle.field_paths.specs.ValueAt.{value_at, datum_at}
use Rattle.field_paths.proofs.path.FieldPath.find.Given as goal

abbrev pub invariant-loop-name : goal.invariant-loop-name
invariant-loop-name l = record {
  value : value_at (drop l.name-index l.name-items) (datum l.value) ≡ datum_at l.self (log_record l.entry);
  in_order : AscendDown (drop l.name-index l.name-items) (datum l.value) → IsInOrder l.self (log_record l.entry);
}
