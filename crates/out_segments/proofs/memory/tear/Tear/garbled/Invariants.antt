use Rattle.std.proofs.Common.{◌≡◌, ◌++◌, length, take, drop}
use Rattle.out_segments.specs.CrashOutcome.{garbage_from}
use Rattle.out_segments.proofs.memory.tear.Tear.garbled.Given as goal

abbrev pub invariant-loop-byte : goal.invariant-loop-byte
invariant-loop-byte l =
    l.piece.items ++ garbage_from l.begins l.self.variation (length l.piece.items) (drop l.byte-index (drop l.front l.bytes)) ≡ take l.front l.bytes ++ garbage_from l.begins l.self.variation l.front (drop l.front l.bytes)
