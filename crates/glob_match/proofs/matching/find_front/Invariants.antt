use Rattle.std.proofs.Common.{◌∷◌, ◌↔◌, length}
use Rattle.glob_match.specs.declared.pattern.Component.TheVariants.{Folders}
use Rattle.glob_match.specs.GlobMatch.{FitsNames}
use Rattle.glob_match.specs.Inner.Walked.{names_left}
use Rattle.glob_match.proofs.matching.find_front.Given as goal

abbrev pub invariant-loop-others : goal.invariant-loop-others
invariant-loop-others l = FitsNames (Folders ∷ l.components) (names_left l.names) ↔ FitsNames (Folders ∷ l.components) (names_left l.left)

abbrev pub decreases-loop-others : goal.decreases-loop-others
decreases-loop-others l = length (names_left l.left)
