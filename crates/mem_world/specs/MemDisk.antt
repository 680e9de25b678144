-- What a disk in memory tells.
use Rattle.std.specs.Prelude.{ℕ, List, length, true, Option, Some, Result}
use Rattle.outside.specs.declared.disk.DiskFile.{DiskFile}
use Rattle.outside.specs.declared.fault.CallFault.{CallFault}
use Rattle.outside.specs.Image.{Image}
use Rattle.outside.specs.Images.{Images}
use Rattle.outside.specs.DiskMeaning.{DiskMeaning}
use Rattle.mem_calls.specs.declared.fuse.Fate.{Fate}
use Rattle.mem_calls.specs.declared.fuse.Fuse.{Fuse}
use Rattle.out_segments.specs.MemLog.{Log}
use Rattle.out_segments.specs.MemParts as parts
use Rattle.out_segments.specs.declared.memory.log.Change.{Change}
use Rattle.mem_world.specs.DiskFiles.{own_file}
use Rattle.mem_world.specs.DiskImages.{shown, LeavesImage, LeftSince}
use Rattle.mem_world.specs.declared.disk.MemDisk.{MemDisk}

-- all that happened to its files, the newest entry first
abbrev pub history_of : MemDisk → Log
history_of disk = parts.history_of disk.parts

abbrev pub fuse_of : MemDisk → Option Fuse
fuse_of disk = parts.fuse_of disk.parts

-- for each failure that was set, the number of calls up to it
abbrev pub failures_of : MemDisk → List ℕ
failures_of disk = parts.failures_of disk.parts

abbrev pub faults_of : MemDisk → ℕ
faults_of disk = parts.faults_of disk.parts

-- the count of faults when the failures that were set were last dropped
abbrev pub base_of : MemDisk → ℕ
base_of disk = parts.base_of disk.parts

abbrev pub seen_of : MemDisk → Image DiskFile
seen_of disk = shown (history_of disk)

abbrev pub MayLeave : MemDisk → Image DiskFile → Type 0
MayLeave disk image = LeavesImage (history_of disk) image

abbrev pub moment_of : MemDisk → ℕ
moment_of disk = length (history_of disk)

abbrev pub MayHaveLeft : MemDisk → ℕ → Image DiskFile → Type 0
MayHaveLeft disk from image = LeftSince (history_of disk) from image

abbrev pub most_faults : MemDisk → Option ℕ
most_faults disk = parts.most_faults disk.parts

abbrev pub done_of : MemDisk → Option ℕ
done_of disk = parts.done_of disk.parts

abbrev pub most_done : MemDisk → Option ℕ
most_done disk = parts.most_done disk.parts

-- the number of bytes that writes to the two slots were given
abbrev pub written_of : MemDisk → ℕ
written_of disk = parts.written_of disk.parts

abbrev pub disk_images : Images DiskFile MemDisk
disk_images = record {
  tells = λ _. true;
  seen = seen_of;
  may_leave = MayLeave;
  moment = moment_of;
  left_since = MayHaveLeft;
}

-- all that a disk in memory tells
abbrev pub disk_meaning : DiskMeaning MemDisk
disk_meaning = record {
  images = disk_images;
  faults = faults_of;
  bound = most_faults;
  done = done_of;
  limit = most_done;
  written = λ disk. Some (written_of disk);
}

-- what becomes of the next call
abbrev pub next_fate : MemDisk → Fate
next_fate disk = parts.next_fate disk.parts

-- no fault, and nothing planned
abbrev pub IsFresh : MemDisk → Type 0
IsFresh disk = parts.IsFresh disk.parts

-- the counts, and all that is planned
abbrev pub KeepsPlans : MemDisk → MemDisk → Type 0
KeepsPlans old new = parts.KeepsPlans old.parts new.parts

-- a call was counted, and its fault where it failed
abbrev pub Counts : MemDisk → MemDisk → Type 0
Counts old new = parts.Counts old.parts new.parts

-- what a write, a cut or a sync does
abbrev pub Calls : DiskFile → Change → Result Unit CallFault → MemDisk → MemDisk → Type 0
Calls file change result old new = parts.Calls (own_file file) change result old.parts new.parts

-- the same of a write of these bytes
abbrev pub Writes : DiskFile → ℕ → List ℕ → Result Unit CallFault → MemDisk → MemDisk → Type 0
Writes file offset bytes result old new = parts.Writes (own_file file) offset bytes result old.parts new.parts
