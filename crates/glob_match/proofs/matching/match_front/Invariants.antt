use Rattle.std.proofs.Common.{length}
use Rattle.glob_match.specs.Inner.Walked.{names_left}
use Rattle.glob_match.proofs.Walks.{Carries}
use Rattle.glob_match.proofs.matching.match_front.Given as goal

abbrev pub invariant-loop-first : goal.invariant-loop-first
invariant-loop-first l = Carries l.components (names_left l.names) l.at (names_left l.left)

abbrev pub decreases-loop-first : goal.decreases-loop-first
decreases-loop-first l = length l.at
