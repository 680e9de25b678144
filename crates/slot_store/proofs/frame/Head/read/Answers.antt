use Rattle.std.proofs.Common.{◌∙◌, sym, arith}
use Rattle.slot_store.proofs.Frames.{head_cut, head_shut, head_past, head_open}
use Rattle.slot_store.proofs.frame.Head.read.Goals as goal
use Rattle.slot_store.proofs.frame.Head.read.Goals.{else-gate-via-then-gate+else-end-from, else-gate-via-else-gate}

pub returns-in_err-gate : goal.returns-in_err-gate
returns-in_err-gate c content long same =
    c.from_residual.ensures ∙ sym (head_cut c.args.place content c.args.front.now (record { same = same }) c.in_err-gate.ensures.short)

pub returns-then-end-from : goal.returns-then-end-from
returns-then-end-from c content long same =
    sym (head_open c.args.place c.in_ok-gate.gate c.in_ok-gate.head.sequence c.in_ok-gate.head.length content c.args.front.now (record { same = same }) c.in_ok-gate.ensures.parts c.if-gate.true (omega arith) (omega arith))

pub returns-else-gate : goal.returns-else-gate
returns-else-gate c content long same =
    elim c.else-gate.branch [
      | else-gate-via-then-gate+else-end-from w ↦ sym (head_past c.args.place c.in_ok-gate.gate c.in_ok-gate.head.sequence c.in_ok-gate.head.length content c.args.front.now (record { same = same }) c.in_ok-gate.ensures.parts (omega arith))
      | else-gate-via-else-gate w ↦ sym (head_shut c.args.place c.in_ok-gate.gate c.in_ok-gate.head.sequence c.in_ok-gate.head.length content c.args.front.now (record { same = same }) c.in_ok-gate.ensures.parts w.if-gate.false)
    ]
