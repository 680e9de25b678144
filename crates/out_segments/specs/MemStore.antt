-- The log of files in memory.
use Rattle.std.specs.Prelude.{reverse}
use Rattle.out_segments.specs.declared.memory.store.Store.{Store}
use Rattle.out_segments.specs.MemLog.{Log}

-- the newest entry first
abbrev pub log_of : Store → Log
log_of store = reverse store.log.items
