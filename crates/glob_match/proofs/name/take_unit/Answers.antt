use Rattle.std.proofs.Common.{arith}
use Rattle.glob_match.proofs.Marks.{leads_any, leads_one}
use Rattle.glob_match.proofs.name.take_unit.Goals as goal

pub returns-in-Star : goal.returns-in-Star
returns-in-Star c = rw c.in-Star.is (leads_any c.args.characters.now c.args.reached.now c.take_any.new.reached c.requires (omega arith) c.take_any.ensures)

pub returns-in_default : goal.returns-in_default
returns-in_default c = leads_one c.args.unit.now c.args.characters.now c.args.reached.now c.take_one.new.reached c.in_default.not-Star c.requires (omega arith) c.take_one.ensures.first c.take_one.ensures.others
