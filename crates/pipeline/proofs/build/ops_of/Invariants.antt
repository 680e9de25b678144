use Rattle.std.proofs.Common.{◌≡◌, ℕ, ◌<◌, length, map}
use Rattle.pipeline.specs.BuildFaults.{IsFineAt, ids_before}
use Rattle.pipeline.specs.Listed.{AreFirstOperators}
use Rattle.pipeline.proofs.build.ops_of.Given as goal

abbrev pub invariant-loop-place : goal.invariant-loop-place
invariant-loop-place l =
    let operators = l.specs in
    record {
      many : length l.ops.items ≡ l.place;
      ops : AreFirstOperators operators l.ops.items;
      ids : map (λ id. id.now) l.ids.keys ≡ ids_before operators l.place;
      fine : (k : ℕ) → k < l.place → IsFineAt operators k;
    }
