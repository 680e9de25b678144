use Rattle.entry_model.proofs.Places.{none_ascend}
use Rattle.entry_model.proofs.fields.TextMap.new.Goals as goal

pub invariant_of-result : goal.invariant_of-result
invariant_of-result g c = rw c.new.ensures.items (none_ascend g.row.V.Denot)
