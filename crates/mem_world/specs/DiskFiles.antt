-- The files of a disk in memory, each one of the files of Parts in memory.
use Rattle.outside.specs.declared.disk.DiskFile.{DiskFile}
use Rattle.outside.specs.declared.disk.DiskFile.TheVariants as disk
use Rattle.out_segments.specs.declared.parts.PartFile.{PartFile}
use Rattle.out_segments.specs.declared.parts.PartFile.TheVariants.{Settings, SlotA, SlotB, Part}
use Rattle.out_segments.specs.CrashOutcome as outcome
use Rattle.out_segments.specs.CrashOutcome.{FileTear}
use Rattle.out_segments.specs.MemLog as parts
use Rattle.out_segments.specs.MemLog.{Log}
use Rattle.std.specs.Prelude.{ℕ}

-- the whole output is the first Part
abbrev pub own_file : DiskFile → PartFile
own_file disk.Settings = Settings
own_file disk.Output = Part 0
own_file disk.SlotA = SlotA
own_file disk.SlotB = SlotB

-- the calls on one file
abbrev pub calls_of : DiskFile → Log → Log
calls_of file log = parts.calls_of (own_file file) log

-- what an outcome of a crash leaves of one file
abbrev pub tear_of : ℕ → DiskFile → FileTear
tear_of number file = outcome.tear_of number (own_file file)
