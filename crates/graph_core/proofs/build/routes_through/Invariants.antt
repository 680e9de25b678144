use Rattle.std.proofs.Common.{◌≡◌, drop}
use Rattle.graph_core.specs.Inner.Reach.{capped_sum}
use Rattle.graph_core.proofs.build.routes_through.Given as goal

abbrev pub invariant-loop-to : goal.invariant-loop-to
invariant-loop-to l = capped_sum l.counts l.total (drop l.to-index l.targets) ≡ capped_sum l.counts 0 l.targets
