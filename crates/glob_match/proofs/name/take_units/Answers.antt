use Rattle.glob_match.specs.Fits.{FitsUnit}
use Rattle.glob_match.proofs.Marks.{leads_more}
use Rattle.glob_match.proofs.name.take_units.Goals as goal

pub loop-unit-preserved : goal.loop-unit-preserved
loop-unit-preserved c =
    leads_more FitsUnit c.args.units.now c.loop-unit.unit-index c.unit-item.result c.args.characters.now c.args.reached.now c.loop-unit.reached c.take_unit.new.reached c.loop-unit-test.true c.unit-item.is c.loop-unit.invariant c.take_unit.ensures
