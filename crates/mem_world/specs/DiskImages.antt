-- The images of a disk in memory, from its log. The newest entry comes first, and a moment is a length of the log.
use Rattle.std.specs.Prelude.{ℕ}
use Rattle.outside.specs.declared.disk.DiskFile.{DiskFile}
use Rattle.outside.specs.Image.{Image}
use Rattle.out_segments.specs.MemImages as parts
use Rattle.out_segments.specs.MemLog.{Log}
use Rattle.mem_world.specs.DiskFiles.{own_file}

-- what reads give
abbrev pub shown : Log → Image DiskFile
shown log = parts.shown own_file log

-- The four files are independent: each may be left as its own calls may leave it.
abbrev pub LeavesImage : Log → Image DiskFile → Type 0
LeavesImage log image = parts.LeavesImage own_file log image

-- the image may be left at the newest moment, or might have been at one before it, none earlier than `from`
abbrev pub LeftSince : Log → ℕ → Image DiskFile → Type 0
LeftSince log from image = parts.LeftSince own_file log from image
