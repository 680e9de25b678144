-- The calls on files in memory that succeeded, and what one call adds to the log.
use Rattle.std.specs.Prelude.{ℕ, ◌+◌, [], ◌∷◌, true, false, if◌then◌else◌}
use Rattle.out_segments.specs.declared.parts.PartFile.{PartFile}
use Rattle.out_segments.specs.declared.memory.log.Change.{Change}
use Rattle.mem_calls.specs.declared.fuse.Fate.{Fate}
use Rattle.mem_calls.specs.declared.fuse.Fate.TheVariants.{Passes, Begins, Fails}
use Rattle.out_segments.specs.MemLog.{Log, is_done}

abbrev pub done_count : Log → ℕ
done_count [] = 0
done_count (entry ∷ before) = if is_done entry then done_count before + 1 else done_count before

-- the log after a call on a file
abbrev pub log_after : Fate → PartFile → Change → Log → Log
log_after Passes file change log = record { file = file; change = change; taken = true } ∷ log
log_after Begins file change log = record { file = file; change = change; taken = false } ∷ log
log_after Fails file change log = log
