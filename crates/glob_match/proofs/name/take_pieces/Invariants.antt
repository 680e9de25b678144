use Rattle.std.proofs.Common.{take}
use Rattle.glob_match.specs.Fits.{FitsPieces}
use Rattle.glob_match.specs.Inner.Leads.{Leads}
use Rattle.glob_match.proofs.name.take_pieces.Given as goal

abbrev pub invariant-loop-piece : goal.invariant-loop-piece
invariant-loop-piece l = Leads (FitsPieces (take l.piece-index l.pieces)) l.characters l.fn.reached l.reached
