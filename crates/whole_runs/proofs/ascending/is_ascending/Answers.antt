use Rattle.std.proofs.Common.{arith, ◌-◌, sym}
use Rattle.whole_runs.proofs.Sorting.{ascends_at, all_ascend, first_ascends}
use Rattle.whole_runs.proofs.ascending.is_ascending.Goals as goal

pub loop-place-init : goal.loop-place-init
loop-place-init g c = first_ascends c.args.calls.now.items

pub loop-place-preserved : goal.loop-place-preserved
loop-place-preserved g c =
    ascends_at c.args.calls.now.items c.loop-place.place (c.loop-place.place - 1) c.address_of-before.result.now c.address_of-here.result.now (omega arith) (omega (arith, c.args.calls.now.ok.0))
    c.address_of-before.ensures c.address_of-here.ensures (sym c.if-not-is_before.ensures) c.loop-place.invariant

pub returns-clause-ascending : goal.returns-clause-ascending
returns-clause-ascending g c = λ _. all_ascend c.args.calls.now.items c.loop-place.place (omega (arith, c.args.calls.now.ok.0)) c.loop-place.invariant
