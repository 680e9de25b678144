use Rattle.std.proofs.Common.{◌≡◌, ◌+◌, ◌++◌, ◌∷◌, [], List, Bool, Err, sym, subst, ◌∙◌, arith}
use Rattle.std.proofs.lemmas.Result.{err_from_is_err_and}
use Rattle.op_kinds.specs.Kept.{Kept}
use Rattle.op_kinds.specs.States.{kept_at}
use Rattle.op_kinds.proofs.States.{SoFar, first_so_far, next_so_far, pushed, one_refused, bytes_left, none_left}
use Rattle.recombine.specs.Inner.Told.{IsRead, Finds}
use Rattle.op_kinds.proofs.saving.restore_state.Goals as goal

pub loop-node-init : goal.loop-node-init
loop-node-init c =
    subst (λ (ks : List Kept). SoFar c.args.nodes.now c.args.bytes.now 0 ks 0) (sym c.new-states.ensures.items) (first_so_far c.args.nodes.now c.args.bytes.now)

pub restored-requires : goal.restored-requires
restored-requires c = c.loop-node.invariant.within

pub returns-in_err-state-clause-fault : goal.returns-in_err-state-clause-fault
returns-in_err-state-clause-fault c =
    let p = err_from_is_err_and c.from_residual.result c.from_residual.ensures.1 in
    rw (p.1, p.2)
    (one_refused {X = Kept} (λ k. k) c.args.nodes.now c.args.bytes.now c.loop-node.node-index c.loop-node.states.items c.loop-node.at c.node-item.result c.in_err-state.field-0.0 (λ i. omega (arith, c.type_inv.bytes i))
    c.loop-node-test.true (sym c.node-item.is) c.loop-node.invariant
    (subst (λ (b : Bool). Finds {X = Kept} (λ k. k) (kept_at b) c.args.bytes.now c.loop-node.at (Err c.in_err-state.field-0.0)) c.has_groups.ensures c.in_err-state.ensures))

pub loop-node-preserved : goal.loop-node-preserved
loop-node-preserved c =
    let put : c.push.new.self.items ≡ c.loop-node.states.items ++ c.in_ok-state.state ∷ [] =
    pushed c.push.result c.push.new.self.items (c.loop-node.states.items ++ c.in_ok-state.state ∷ []) c.loop-node.states.items (sym c.is_err.ensures.value ∙ c.if-is_err.false) c.push.ensures.items in
    let read = subst (λ (b : Bool). IsRead (kept_at b) c.args.bytes.now c.loop-node.at c.in_ok-state.state c.in_ok-state.next) c.has_groups.ensures c.in_ok-state.ensures in
    subst (λ (ks : List Kept). SoFar c.args.nodes.now c.args.bytes.now (c.loop-node.node-index + 1) ks c.in_ok-state.next) (sym put)
    (next_so_far c.args.nodes.now c.args.bytes.now c.loop-node.node-index c.loop-node.states.items c.loop-node.at c.node-item.result c.in_ok-state.state c.in_ok-state.next c.loop-node-test.true (sym c.node-item.is) c.loop-node.invariant read)

pub returns-then-at-bytes-clause-fault : goal.returns-then-at-bytes-clause-fault
returns-then-at-bytes-clause-fault c =
    bytes_left c.args.nodes.now c.args.bytes.now c.loop-node.node-index c.loop-node.states.items c.loop-node.at (λ i. omega (arith, c.type_inv.bytes i)) (omega (arith, c.loop-node-test.false)) c.loop-node.invariant (omega arith)

pub returns-clause-ok : goal.returns-clause-ok
returns-clause-ok c =
    none_left c.args.nodes.now c.args.bytes.now c.loop-node.node-index c.loop-node.states.items c.loop-node.at (λ i. omega (arith, c.type_inv.bytes i)) (omega (arith, c.loop-node-test.false)) c.loop-node.invariant (omega arith)
