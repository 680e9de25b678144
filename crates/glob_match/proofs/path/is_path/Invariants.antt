use Rattle.std.proofs.Common.{◌≡◌, length}
use Rattle.std.specs.List.{list_all}
use Rattle.glob_match.specs.Path.{is_name, is_path}
use Rattle.glob_match.specs.Inner.Walked.{names_left}
use Rattle.glob_match.proofs.path.is_path.Given as goal

abbrev pub invariant-loop-left : goal.invariant-loop-left
invariant-loop-left l = list_all is_name (names_left l.left) ≡ is_path l.path

abbrev pub decreases-loop-left : goal.decreases-loop-left
decreases-loop-left l = length (names_left l.left)
