use Rattle.out_segments.proofs.CrashTearing.{nothing_left, all_left}
use Rattle.out_segments.proofs.memory.MemParts.outcomes_leave_nothing_or_all.Goals as goal

pub returns-clause-nothing : goal.returns-clause-nothing
returns-clause-nothing c = λ file log. nothing_left 0 file log

pub returns-clause-all : goal.returns-clause-all
returns-clause-all c = λ file log. all_left 0 file log
