use Rattle.std.proofs.Common.{sym, arith}
use Rattle.pipeline.specs.RowStates.{AreBytes}
use Rattle.pipeline.proofs.foreign.is_state.Goals as goal
use Rattle.pipeline.proofs.foreign.is_state.Goals.{in-Ok, in-Err-Malformed, in-Err-Memory}

pub returns : goal.returns
returns c =
    let kept = c.args.bytes.now in
    let tells = c.a_row_tells_its_state.ensures in
    let bytes : AreBytes kept = λ i. omega (arith, c.type_inv.bytes i) in
    elim c.match-restore.branch [
      | in-Ok w ↦ rw w.result-is (λ text. sym (tells.restored text kept w.in-Ok.field-0.states.items w.in-Ok.ensures.ok.states))
      | in-Err-Malformed w ↦ (let none = rw w.in-Err-Malformed.field-0-is at w.in-Err-Malformed.ensures.fault in rw w.result-is (λ text. sym (tells.refused text kept w.in-Err-Malformed.field-0-0 bytes none)))
      | in-Err-Memory w ↦ rw w.result-is tt
    ]
