use Rattle.std.proofs.Common.{◌≡◌, ◌+◌, length}
use Rattle.pipeline.specs.Listed.{AreOperatorsFrom}
use Rattle.pipeline.specs.Wired.{AreFirstNodes}
use Rattle.pipeline.proofs.wiring.wired.Given as goal

abbrev pub invariant-wiring : goal.invariant-wiring
invariant-wiring l =
    let operators = l.specs in
    record {
      many : length l.nodes.items + length l.ops.items ≡ length l.specs;
      left : AreOperatorsFrom (length l.nodes.items) operators l.ops.items;
      nodes : AreFirstNodes operators l.nodes.items;
    }

abbrev pub decreases-wiring : goal.decreases-wiring
decreases-wiring l = length l.ops.items
