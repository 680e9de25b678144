use Rattle.std.proofs.Common.{◌+◌, ◌*◌, length, take, ◌↔◌}
use Rattle.std.specs.Str.{chars}
use Rattle.std.specs.Str.Iter.{chars_rest}
use Rattle.glob_match.specs.declared.pattern.Unit.TheVariants.{Star}
use Rattle.glob_match.specs.Inner.FitsBoth.{FitsFrom, FitsSome}
use Rattle.glob_match.proofs.Searching.{sizes, weight}
use Rattle.glob_match.proofs.search.+search.Given as goal

abbrev pub decreases-fits_long : goal.decreases-fits_long
decreases-fits_long l = 3 * length l.units.now + weight l.pieces.now

abbrev pub decreases-fits_some : goal.decreases-fits_some
decreases-fits_some l = sizes l.parts.now + weight l.pieces.now + 1

abbrev pub decreases-fits_from : goal.decreases-fits_from
decreases-fits_from l = 3 * length l.units.now + weight l.pieces.now + 2

abbrev pub decreases-fits_behind : goal.decreases-fits_behind
decreases-fits_behind l = 3 * length l.units.now + weight l.pieces.now + 1

abbrev pub invariant-fits_behind-loop-left : goal.invariant-fits_behind-loop-left
invariant-fits_behind-loop-left l = FitsFrom Star l.units l.pieces (chars l.fn.name) ↔ FitsFrom Star l.units l.pieces (chars (chars_rest l.left))

abbrev pub decreases-fits_behind-loop-left : goal.decreases-fits_behind-loop-left
decreases-fits_behind-loop-left l = length (chars_rest l.left)

abbrev pub invariant-fits_some-loop-part : goal.invariant-fits_some-loop-part
invariant-fits_some-loop-part l = FitsSome (take l.part-index l.parts) l.pieces (chars l.name) → ⊥
