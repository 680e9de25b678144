use Rattle.std.proofs.Common.{◌≡◌, sym, length, ◌-◌}
use Rattle.std.specs.Prelude.{Some, None}
use Rattle.graph_core.specs.Closing.{closing_order, next_ready}
use Rattle.graph_core.specs.Inner.Reach.{lists_of}
use Rattle.graph_core.proofs.Checks.{order_more, order_none, order_end}
use Rattle.graph_core.proofs.build.closing_order.Goals as goal
use Rattle.graph_core.proofs.build.closing_order.Goals.{else-loop-step-test, then-loop-step-test+in_default}

pub loop-step-preserved : goal.loop-step-preserved
loop-step-preserved c =
    let next : next_ready (lists_of c.args.edges.now) c.loop-step.order.items ≡ Some c.in-Some.node = rw (← c.deref.ensures.value) (sym c.in-Some.ensures) in
    rw c.in_ok-push.ensures.items
    (order_more (lists_of c.args.edges.now) c.loop-step.order.items c.loop-step._step (length c.args.edges.now) c.in-Some.node (closing_order (lists_of c.args.edges.now))
    c.loop-step-test.true next c.loop-step.invariant)

pub returns : goal.returns
returns c =
    elim c.loop-step-test.branch [
      | else-loop-step-test w ↦ order_end (lists_of c.args.edges.now) c.loop-step.order.items c.loop-step._step (length c.args.edges.now) (closing_order (lists_of c.args.edges.now))
          w.loop-step-test.false c.loop-step.invariant
      | then-loop-step-test+in_default w ↦
          (let none : next_ready (lists_of c.args.edges.now) c.loop-step.order.items ≡ None = rw (← w.deref.ensures.value) (sym w.in_default.ensures) in
          order_none (lists_of c.args.edges.now) c.loop-step.order.items (length c.args.edges.now - c.loop-step._step) (closing_order (lists_of c.args.edges.now)) none c.loop-step.invariant)
    ]
