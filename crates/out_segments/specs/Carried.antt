-- Parts that get what a crash leaves of others, file by file.
use Rattle.std.specs.Prelude.{◌≡◌, ◌≢◌, ℕ}
use Rattle.outside.specs.Crash.{IsDurable}
use Rattle.out_segments.specs.CrashOutcome.{left_by, tear_of}
use Rattle.out_segments.specs.MemLog.{Log, Leaves, calls_of}
use Rattle.out_segments.specs.MemParts.{parts_images, seen_of}
use Rattle.out_segments.specs.declared.memory.MemParts.{MemParts}
use Rattle.out_segments.specs.declared.parts.PartFile.{PartFile}

-- The file is what the outcome leaves of its calls, synced.
pub record Carried (outcome : ℕ) (log : Log) (after : MemParts) (file : PartFile) : Type 0 where
  pub leaves : Leaves (calls_of file log) (seen_of after file)
  pub torn : seen_of after file ≡ left_by (tear_of outcome file) (calls_of file log)
  pub durable : IsDurable parts_images file after

-- Each other file is as it was, and synced where it was.
pub record KeepsOthers (file : PartFile) (old new : MemParts) : Type 0 where
  pub seen : (other : PartFile) → other ≢ file → seen_of new other ≡ seen_of old other
  pub durable : (other : PartFile) → other ≢ file → IsDurable parts_images other old → IsDurable parts_images other new
