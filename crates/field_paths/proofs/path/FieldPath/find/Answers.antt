use Rattle.std.proofs.Common.{sym}
use Rattle.entry_model.specs.Datum.{datum}
use Rattle.field_paths.proofs.Ways.{ends_in_order}
use Rattle.field_paths.proofs.path.FieldPath.find.Goals as goal

pub returns-in_err-value-clause-in_order : goal.returns-in_err-value-clause-in_order
returns-in_err-value-clause-in_order c =
    c.loop-name.invariant.in_order (ends_in_order c.deref-name-items.result.now c.loop-name.name-index c.name-item.result (datum c.loop-name.value.now) c.loop-name-test.true c.name-item.is c.member_of.ensures.ascend (sym c.in_err-value.ensures.value))
