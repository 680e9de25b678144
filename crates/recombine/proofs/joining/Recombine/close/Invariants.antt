use Rattle.std.proofs.Common.{◌≡◌, ◌++◌}
use Rattle.recombine.specs.Recombined.{entries_of}
use Rattle.recombine.specs.Stepped.{seen}
use Rattle.recombine.specs.Table.{groups_seen}
use Rattle.recombine.proofs.joining.Recombine.close.Given as goal

abbrev pub invariant-loop-group : goal.invariant-loop-group
invariant-loop-group l = seen l.out.items ≡ seen l.initial.out.items ++ entries_of l.self (groups_seen l.yielded)
