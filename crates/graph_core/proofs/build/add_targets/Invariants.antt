use Rattle.std.proofs.Common.{◌≡◌, drop}
use Rattle.graph_core.specs.Inner.Reach.{add_targets}
use Rattle.graph_core.proofs.build.add_targets.Given as goal

abbrev pub invariant-loop-to : goal.invariant-loop-to
invariant-loop-to l = add_targets l.seen.items (drop l.to-index l.targets) ≡ add_targets l.initial.seen.items l.targets
