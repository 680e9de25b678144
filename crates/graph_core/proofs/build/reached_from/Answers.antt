use Rattle.std.proofs.Common.{◌≡◌, sym, length, ◌-◌}
use Rattle.std.specs.Prelude.{Some, None, slice_get}
use Rattle.graph_core.specs.Inner.Reach.{lists_of, reached}
use Rattle.graph_core.proofs.Checks.{spread_more, spread_none, spread_end}
use Rattle.graph_core.proofs.build.reached_from.Goals as goal
use Rattle.graph_core.proofs.build.reached_from.Goals.{else-loop-place-test, then-loop-place-test+in_default}

pub loop-place-preserved : goal.loop-place-preserved
loop-place-preserved c =
    let next : slice_get c.loop-place.seen.items c.loop-place.place ≡ Some c.in-Some.next = rw (← c.deref.ensures.value) (sym c.in-Some.ensures) in
    rw c.in_ok-add_targets_of-2.ensures
    (spread_more (lists_of c.args.edges.now) c.loop-place.seen.items c.loop-place.place (length c.args.edges.now) c.in-Some.next (reached (lists_of c.args.edges.now) c.args.node)
    c.loop-place-test.true next c.loop-place.invariant)

pub returns : goal.returns
returns c =
    elim c.loop-place-test.branch [
      | else-loop-place-test w ↦ spread_end (lists_of c.args.edges.now) c.loop-place.seen.items c.loop-place.place (length c.args.edges.now) (reached (lists_of c.args.edges.now) c.args.node)
          w.loop-place-test.false c.loop-place.invariant
      | then-loop-place-test+in_default w ↦
          (let none : slice_get c.loop-place.seen.items c.loop-place.place ≡ None = rw (← w.deref.ensures.value) (sym w.in_default.ensures) in
          spread_none (lists_of c.args.edges.now) c.loop-place.seen.items (length c.args.edges.now - c.loop-place.place) c.loop-place.place (reached (lists_of c.args.edges.now) c.args.node) none c.loop-place.invariant)
    ]
