use Rattle.std.proofs.Common.{◌≡◌, take}
use Rattle.glob_match.specs.declared.pattern.Piece.TheVariants.{AnyOf}
use Rattle.glob_match.specs.Fits.{FitsPiece}
use Rattle.glob_match.specs.Inner.Leads.{Leads}
use Rattle.glob_match.proofs.name.take_parts.Given as goal

abbrev pub invariant-loop-part : goal.invariant-loop-part
invariant-loop-part l = record {
  from_is : l.from ≡ l.fn.reached;
  leads : Leads (FitsPiece (AnyOf (take l.part-index l.parts))) l.characters l.fn.reached l.to;
}
