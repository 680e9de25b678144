use Rattle.out_segments.specs.MemParts.{history_of}
use Rattle.out_segments.proofs.MemCrashing.{IsCrashed}
use Rattle.out_segments.proofs.memory.MemParts.crash.Given as goal

abbrev pub invariant-loop-number : goal.invariant-loop-number
invariant-loop-number l = IsCrashed l.outcome (history_of l.self) l.number l.after
