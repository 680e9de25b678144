-- What a disk means: its images, and its counts.
use Rattle.std.specs.Prelude.{ℕ, Option}
use Rattle.outside.specs.Images.{Images}
use Rattle.outside.specs.declared.disk.DiskFile.{DiskFile}

pub record DiskMeaning (D : Type 0) : Type 1 where
  pub images : Images DiskFile D
  -- how often the disk has failed
  pub faults : D → ℕ
  -- what `faults` never passes, where there is such a number
  pub bound : D → Option ℕ
  -- the number of writes, cuts and syncs that succeeded, where the disk tells it
  pub done : D → Option ℕ
  -- what `done` never passes, where there is such a number
  pub limit : D → Option ℕ
  -- The number of bytes that writes to the two slots were given, where the disk tells it. It stands still at 2^64 - 1.
  pub written : D → Option ℕ
