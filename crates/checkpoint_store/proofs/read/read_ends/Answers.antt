use Rattle.std.proofs.Common.{◌≡◌, ◌+◌, ◌-◌, ℕ, suc, List, sym, ap, ◌∙◌, arith}
use Rattle.std.proofs.lemmas.Result.{err_from_is_err_and}
use Rattle.file_tracker.specs.declared.ends.End.{End}
use Rattle.state_codec.specs.declared.cursor.Fault.{Fault}
use Rattle.state_codec.proofs.Fronts.{with_front, fails_at}
use Rattle.checkpoint_store.specs.Reading.{end_at, ends_at}
use Rattle.checkpoint_store.proofs.Loops.{list_step, list_fail}
use Rattle.checkpoint_store.proofs.read.read_ends.Goals as goal

pub returns-in_err-end : goal.returns-in_err-end
returns-in_err-end c =
    let to : End = c.args.to in
    let last : End = c.loop-done.last in
    let n : ℕ = c.args.count - (c.loop-done._done + 1) in
    let left : c.args.count - c.loop-done._done ≡ suc n = omega arith in
    let fault : Fault = c.in_err-end.field-0.0 in
    let p = err_from_is_err_and c.from_residual.result c.from_residual.ensures.1 in
    rw (p.1, p.2)
    (fails_at fault (with_front c.loop-done.ends.items (ends_at last to (c.args.count - c.loop-done._done) c.loop-done.rest.now)) (ends_at c.args.from to c.args.count c.args.bytes.now) c.loop-done.invariant
    (rw left (list_fail (λ last _ rest. end_at last to rest) (λ _ end. end) last n c.loop-done.ends.items c.loop-done.rest.now fault c.in_err-end.ensures)))

pub loop-done-preserved : goal.loop-done-preserved
loop-done-preserved c =
    let to : End = c.args.to in
    let last : End = c.loop-done.last in
    let n : ℕ = c.args.count - (c.loop-done._done + 1) in
    let left : c.args.count - c.loop-done._done ≡ suc n = omega arith in
    ap (λ (l : List End). with_front l (ends_at c.in_ok-end.end to n c.in_ok-end.after.now)) c.in_ok-push.ensures.items
    ∙ sym (list_step (λ last _ rest. end_at last to rest) (λ _ end. end) last n c.loop-done.ends.items c.loop-done.rest.now c.in_ok-end.after.now c.in_ok-end.end c.in_ok-end.ensures)
    ∙ ap (λ (k : ℕ). with_front c.loop-done.ends.items (ends_at last to k c.loop-done.rest.now)) (sym left) ∙ c.loop-done.invariant
