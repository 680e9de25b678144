use Rattle.std.proofs.Common.{arith}
use Rattle.glob_match.proofs.Marks.{leads_part_more}
use Rattle.glob_match.proofs.name.take_parts.Goals as goal

pub loop-part-preserved : goal.loop-part-preserved
loop-part-preserved c = record {
  from_is = c.loop-part.invariant.from_is;
  leads = leads_part_more c.args.parts.now c.loop-part.part-index c.part-item.result c.args.characters.now c.args.reached.now c.loop-part.to c.take_units.new.reached c.add.new.marks c.loop-part-test.true c.part-item.is c.loop-part.invariant.leads
      (rw (← c.part.view_is, ← c.deref.ensures.value, ← c.loop-part.invariant.from_is, ← c.copy_from_slice-in-loop-part.ensures.after) c.take_units.ensures) (omega arith) c.add.ensures;
}
