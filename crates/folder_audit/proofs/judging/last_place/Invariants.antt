use Rattle.std.proofs.Common.{ℕ, ◌<◌, ◌≤◌, length}
use Rattle.std.specs.Prelude.{get_or}
use Rattle.pipeline.specs.Parts.{settings_of}
use Rattle.pipeline.specs.declared.Pipeline.{Pipeline}
use Rattle.folder_audit.proofs.judging.last_place.Given as goal

abbrev pub invariant-loop-pipe : goal.invariant-loop-pipe
invariant-loop-pipe l = record {
  small : l.most < 4294967296;
  each : (k : ℕ) (d : Pipeline) → k < l.pipe-index → k < length l.pipes → (settings_of (get_or l.pipes k d)).max_log_size ≤ l.most;
}
