-- Laws of the images of a disk in memory.
use Rattle.std.specs.Prelude.{ℕ, ◌≤◌, length}
use Rattle.outside.specs.declared.disk.DiskFile.{DiskFile}
use Rattle.outside.specs.Image.{Image}
use Rattle.out_segments.specs.MemLaws as parts
use Rattle.out_segments.specs.MemLog.{Log}
use Rattle.mem_world.specs.DiskFiles.{own_file}
use Rattle.mem_world.specs.DiskImages.{shown, LeavesImage, LeftSince}

pub leaves_shown : (log : Log) → LeavesImage log (shown log)
leaves_shown log = parts.leaves_shown own_file log

pub left_now : (log : Log) (from : ℕ) (image : Image DiskFile) → from ≤ length log → LeavesImage log image → LeftSince log from image
left_now log from image early left = parts.left_now own_file log from image early left

pub left_only_now : (log : Log) (image : Image DiskFile) → LeftSince log (length log) image → LeavesImage log image
left_only_now log image left = parts.left_only_now own_file log image left
