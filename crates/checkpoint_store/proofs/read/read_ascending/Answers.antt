use Rattle.std.proofs.Common.{◌≡◌, ◌+◌, ◌-◌, ℕ, suc, List, [], ◌∷◌, ◌++◌, sym, ap, ◌∙◌, arith}
use Rattle.std.proofs.lemmas.Result.{err_from_is_err_and}
use Rattle.file_tracker.specs.declared.row.Row.{Row}
use Rattle.state_codec.specs.declared.cursor.Fault.{Fault}
use Rattle.state_codec.proofs.Fronts.{with_front, fails_at}
use Rattle.checkpoint_store.specs.declared.beside.Beside.{Beside}
use Rattle.checkpoint_store.specs.Reading.{row_at, ascending_at}
use Rattle.checkpoint_store.proofs.Loops.{list_step, list_fail}
use Rattle.checkpoint_store.proofs.read.read_ascending.Goals as goal

pub returns-in_err-row : goal.returns-in_err-row
returns-in_err-row c =
    let beside : Beside = c.args.beside in
    let high : ℕ = c.args.next - 1 in
    let low : ℕ = c.loop-done.low in
    let n : ℕ = c.args.count - c.loop-done.done - 1 in
    let left : c.args.count - c.loop-done.done ≡ suc n = omega arith in
    let fault : Fault = c.in_err-row.field-0.0 in
    let p = err_from_is_err_and c.from_residual.result c.from_residual.ensures.1 in
    rw (p.1, p.2)
    (fails_at fault (with_front c.loop-done.rows.items (ascending_at beside low high (c.args.count - c.loop-done.done) c.loop-done.rest.now)) (ascending_at beside 1 high c.args.count c.args.bytes.now) c.loop-done.invariant
    (rw left
    (list_fail (λ least n rest. row_at beside least (high - n) rest) (λ _ row. row.id + 1) low n c.loop-done.rows.items c.loop-done.rest.now fault
    (rw (c.saturating_sub-high.ensures, c.saturating_sub.ensures) at c.in_err-row.ensures.exact))))

pub loop-done-preserved : goal.loop-done-preserved
loop-done-preserved c =
    let beside : Beside = c.args.beside in
    let high : ℕ = c.args.next - 1 in
    let low : ℕ = c.loop-done.low in
    let n : ℕ = c.args.count - c.loop-done.done - 1 in
    let left : c.args.count - c.loop-done.done ≡ suc n = omega arith in
    let behind : c.args.count - (c.loop-done.done + 1) ≡ n = omega arith in
    ap (λ (l : List Row). with_front l (ascending_at beside (c.in_ok-row.row.id + 1) high (c.args.count - (c.loop-done.done + 1)) c.in_ok-row.after.now)) c.in_ok-push.ensures.items
    ∙ ap (λ (k : ℕ). with_front (c.loop-done.rows.items ++ c.in_ok-row.row ∷ []) (ascending_at beside (c.in_ok-row.row.id + 1) high k c.in_ok-row.after.now)) behind
    ∙ sym (list_step (λ least n rest. row_at beside least (high - n) rest) (λ _ row. row.id + 1) low n c.loop-done.rows.items c.loop-done.rest.now c.in_ok-row.after.now c.in_ok-row.row
    (rw (c.saturating_sub-high.ensures, c.saturating_sub.ensures) at c.in_ok-row.ensures.exact))
    ∙ ap (λ (k : ℕ). with_front c.loop-done.rows.items (ascending_at beside low high k c.loop-done.rest.now)) (sym left) ∙ c.loop-done.invariant
