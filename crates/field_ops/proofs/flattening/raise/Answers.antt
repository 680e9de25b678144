use Rattle.std.proofs.Common.{◌≡◌, ◌∷◌, ap, arith, length}
use Rattle.std.specs.Vec.Iter.{into_iter_items}
use Rattle.field_ops.proofs.Held.{one_raised}
use Rattle.field_ops.proofs.flattening.raise.Goals as goal

pub loop-name-preserved : goal.loop-name-preserved
loop-name-preserved c =
    let at = c.loop-name in
    let steps : into_iter_items at.name-iterator ≡ (c.in-Some.name, c.in-Some.value) ∷ into_iter_items c.next.new.self = c.in-Some.ensures.steps.0 in
    record {
      makes = one_raised (into_iter_items c.next.new.self) at.all.entries c.insert.new.self.entries c.args.raised.entries c.args.members.entries (into_iter_items at.name-iterator)
          c.in-Some.name c.in-Some.value steps c.in_ok-insert.ensures at.invariant.makes;
      len = (
          let was = at.invariant.len in
          let gone = c.in-Some.ensures.steps.1 in
          let short = ap length steps in
          omega (arith, was, gone, short)
          );
    }
