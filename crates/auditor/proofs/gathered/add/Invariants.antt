use Rattle.std.proofs.Common.{◌≡◌, ◌++◌}
use Rattle.standing.specs.Closed.{flagged}
use Rattle.auditor.specs.Inner.Compared.{made_in}
use Rattle.auditor.proofs.gathered.add.Given as goal

abbrev pub invariant-loop-entry : goal.invariant-loop-entry
invariant-loop-entry l = made_in l.items.items ≡ made_in l.initial.items.items ++ flagged l.stamped l.yielded
