use Rattle.std.proofs.Common.{◌≡◌, ◌++◌}
use Rattle.entry_model.proofs.builder.FieldsBuilder.finish.Given as goal

abbrev pub invariant-loop-name : goal.invariant-loop-name
invariant-loop-name l = l.members.items ++ l.name-iterator ≡ l.initial.name-iterator
