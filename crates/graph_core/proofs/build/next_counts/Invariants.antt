use Rattle.std.proofs.Common.{◌≡◌, map, take}
use Rattle.graph_core.specs.Inner.Reach.{lists_of, capped_sum}
use Rattle.graph_core.proofs.build.next_counts.Given as goal

abbrev pub invariant-loop-targets : goal.invariant-loop-targets
invariant-loop-targets l = l.next.items ≡ map (λ targets. capped_sum l.counts 0 targets) (lists_of (take l.targets-index l.edges))
