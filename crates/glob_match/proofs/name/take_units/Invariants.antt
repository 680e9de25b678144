use Rattle.std.proofs.Common.{take}
use Rattle.glob_match.specs.Fits.{FitsUnits}
use Rattle.glob_match.specs.Inner.Leads.{Leads}
use Rattle.glob_match.proofs.name.take_units.Given as goal

abbrev pub invariant-loop-unit : goal.invariant-loop-unit
invariant-loop-unit l = Leads (FitsUnits (take l.unit-index l.units)) l.characters l.fn.reached l.reached
