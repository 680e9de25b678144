use Rattle.std.proofs.Common.{◌≡◌, length}
use Rattle.pipeline.specs.Globs.{IsPatternOf}
use Rattle.pipeline.specs.Listed.{ArePaired}
use Rattle.pipeline.proofs.globs.globs_of.Given as goal

abbrev pub invariant-loop-place : goal.invariant-loop-place
invariant-loop-place l = record {
  many : length l.globs.items ≡ l.place;
  each : ArePaired IsPatternOf l.texts l.globs.items;
}
