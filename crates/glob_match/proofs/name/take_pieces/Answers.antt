use Rattle.glob_match.specs.Fits.{FitsPiece}
use Rattle.glob_match.proofs.Marks.{leads_more}
use Rattle.glob_match.proofs.name.take_pieces.Goals as goal
use Rattle.glob_match.proofs.name.take_pieces.Goals.{in-Single, in-AnyOf}

pub loop-piece-preserved : goal.loop-piece-preserved
loop-piece-preserved c =
    leads_more FitsPiece c.args.pieces.now c.loop-piece.piece-index c.piece-item.result c.args.characters.now c.args.reached.now c.loop-piece.reached c.match-piece.reached c.loop-piece-test.true c.piece-item.is c.loop-piece.invariant
    (elim c.match-piece.branch [
      | in-Single w ↦ rw (w.in-Single.is, w.reached-is) w.take_unit.ensures
      | in-AnyOf w ↦ rw (w.in-AnyOf.is, w.reached-is, ← w.parts.view_is, ← w.deref.ensures.value) w.take_parts.ensures
    ])
