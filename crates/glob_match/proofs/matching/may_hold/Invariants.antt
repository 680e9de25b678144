use Rattle.std.proofs.Common.{◌↔◌, length}
use Rattle.glob_match.specs.Inner.Front.{MayHold}
use Rattle.glob_match.specs.Inner.Walked.{names_left}
use Rattle.glob_match.proofs.matching.may_hold.Given as goal

abbrev pub invariant-loop-left : goal.invariant-loop-left
invariant-loop-left l = MayHold l.components (names_left l.names) ↔ MayHold l.at (names_left l.left)

abbrev pub decreases-loop-left : goal.decreases-loop-left
decreases-loop-left l = length (names_left l.left)
