use Rattle.entry_model.proofs.Nesting.{keys_ascend}
use Rattle.field_ops.proofs.merging.joined.Goals as goal

pub put_absent-requires-clause-held : goal.put_absent-requires-clause-held
put_absent-requires-clause-held c = keys_ascend c.in-Some-Map.held.entries c.len.ensures.ordered

pub put_absent-requires-clause-members : goal.put_absent-requires-clause-members
put_absent-requires-clause-members c = keys_ascend c.args.members.entries c.len-then-len-le-FEW-2.ensures.ordered
