use Rattle.std.proofs.Common.{◌∙◌, sym, arith}
use Rattle.json_text.proofs.Steps.{number_goes, number_ends, number_stops}
use Rattle.std.proofs.Common.{slice_range}
use Rattle.json_text.proofs.number.number_end.Goals as goal

pub loop-next-preserved : goal.loop-next-preserved
loop-next-preserved c =
    let inv = c.loop-next.invariant in
    let on = number_goes c.args.text.now c.args.at c.loop-next.end c.loop-next.part c.in-Some.next inv.low c.in-Some.ensures inv.leads inv.ascii in
    let low = inv.low in
    record { low = omega arith; high = on.0; begun = λ _. omega arith; ascii = on.1; leads = on.2 }

pub returns-then-can_end-clause-ok : goal.returns-then-can_end-clause-ok
returns-then-can_end-clause-ok c =
    let inv = c.loop-next.invariant in (
      inv.low,
      inv.high,
      λ around.
          inv.leads around
          ∙ number_ends c.args.text.now c.args.at c.loop-next.end c.loop-next.part c.in_default.ensures (sym c.can_end.ensures ∙ c.if-can_end.true)
          (slice_range c.args.text.now c.args.at c.loop-next.end) around,
    )

pub returns-clause-fault : goal.returns-clause-fault
returns-clause-fault c = λ around.
    c.loop-next.invariant.leads around
    ∙ number_stops c.args.text.now c.loop-next.end c.loop-next.part c.in_default.ensures (sym c.can_end.ensures ∙ c.if-can_end.false)
    (slice_range c.args.text.now c.args.at c.loop-next.end) around
