-- What reads give of a disk in memory may be left by a crash.
use Rattle.std.proofs.Common.{ℕ, List, [], ◌∷◌, length, Bool, true, false, refl, inl, inr, arith}
use Rattle.std.specs.Prelude.{if◌then◌else◌}
use Rattle.mem_world.specs.DiskFiles.{calls_of}
use Rattle.out_segments.specs.MemLog.{Log, Leaves, LeavesBy, changed, content}
use Rattle.mem_world.specs.MemDisk.{MayLeave, history_of, seen_of}
use Rattle.mem_world.specs.declared.disk.MemDisk.{MemDisk}
use Rattle.out_segments.specs.declared.memory.log.Change.{Change}
use Rattle.out_segments.specs.declared.memory.log.Change.TheVariants.{Put, Write, Cut, Sync}
use Rattle.outside.specs.Image.{Torn}
use Rattle.outside.proofs.Tearing.{torn_idle}

left_by : (change : Change) (taken : Bool) (before : Log) → Leaves before (content before) → LeavesBy change taken (Leaves before) (content before) (if taken then changed change (content before) else content before)
left_by (Put bytes) true before left = refl
left_by (Put bytes) false before left = left
left_by (Write offset bytes) true before left = (content before, left, inl refl)
left_by (Write offset bytes) false before left = (content before, left, inr (torn_idle offset (length bytes.items) (content before)))
left_by (Cut size) true before left = (content before, left, inr refl)
left_by (Cut size) false before left = (content before, left, inl refl)
left_by Sync true before left = refl
left_by Sync false before left = left

content_left : (log : Log) → Leaves log (content log)
content_left [] = refl
content_left (entry ∷ before) = left_by entry.change entry.taken before (content_left before)

pub seen_left : (disk : MemDisk) → MayLeave disk (seen_of disk)
seen_left disk = λ file. content_left (calls_of file (history_of disk))
