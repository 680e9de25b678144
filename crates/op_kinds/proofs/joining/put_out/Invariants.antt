use Rattle.std.proofs.Common.{◌≡◌, ◌++◌}
use Rattle.op_kinds.specs.Operator.{on_one_port}
use Rattle.recombine.specs.Stepped.{seen}
use Rattle.op_kinds.proofs.joining.put_out.Given as goal

abbrev pub invariant-loop-entry : goal.invariant-loop-entry
invariant-loop-entry l = l.out.items ≡ l.initial.out.items ++ on_one_port (seen l.yielded)
