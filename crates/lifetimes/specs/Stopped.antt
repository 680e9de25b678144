-- What a stop leaves of a disk.
use Rattle.std.specs.Prelude.{◌≡◌, ◌+◌, ◌≤◌, Some}
use Rattle.lifetimes.specs.Script.{Halt}
use Rattle.lifetimes.specs.declared.stopping.Stopping.{Stopping}
use Rattle.mem_world.specs.DiskFiles.{tear_of}
use Rattle.out_segments.specs.CrashOutcome.{left_by}
use Rattle.out_segments.specs.MemCount.{done_count}
use Rattle.mem_world.specs.DiskFiles.{calls_of}
use Rattle.mem_world.specs.MemDisk.{history_of, most_done, moment_of, seen_of}
use Rattle.mem_world.specs.declared.disk.MemDisk.{MemDisk}
use Rattle.outside.specs.declared.disk.DiskFile.{DiskFile}

abbrev pub halt_of : Stopping → Halt
halt_of stopping = record { calls = stopping.calls; outcome = stopping.outcome }

-- There was a disk on which no more calls succeeded since this one than the stop says, and of what a crash may have left of it
-- the outcome picks the image that the new disk has.
pub record IsStopped (halt : Halt) (old new : MemDisk) : Type 0 where
  pub stopped : MemDisk
  pub later : moment_of old ≤ moment_of stopped
  pub limit : most_done stopped ≡ Some (done_count (history_of old) + halt.calls)
  pub within : done_count (history_of stopped) ≤ done_count (history_of old) + halt.calls
  pub image : (file : DiskFile) → seen_of new file ≡ left_by (tear_of halt.outcome file) (calls_of file (history_of stopped))
