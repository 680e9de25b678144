use Rattle.std.proofs.Common.{◌≡◌, ◌+◌, ◌-◌, ◌∷◌, ◌++◌, [], ℕ, suc, List, sym, ap, ◌∙◌, arith}
use Rattle.std.proofs.lemmas.Result.{err_from_is_err_and}
use Rattle.state_codec.specs.declared.cursor.Fault.{Fault}
use Rattle.state_codec.specs.Reading.{bytes_at}
use Rattle.state_codec.proofs.Fronts.{with_front, fails_at}
use Rattle.checkpoint_store.specs.Reading.{texts_at}
use Rattle.checkpoint_store.proofs.Loops.{list_step, list_fail}
use Rattle.checkpoint_store.proofs.read.read_texts.Goals as goal

pub returns-in_err-text : goal.returns-in_err-text
returns-in_err-text c =
    let n : ℕ = c.args.count - (c.loop-done._done + 1) in
    let left : c.args.count - c.loop-done._done ≡ suc n = omega arith in
    let fault : Fault = c.in_err-text.field-0.0 in
    let p = err_from_is_err_and c.from_residual.result c.from_residual.ensures.1 in
    rw (p.1, p.2)
    (fails_at fault (with_front c.loop-done.texts.items (texts_at (c.args.count - c.loop-done._done) c.loop-done.rest.now)) (texts_at c.args.count c.args.bytes.now) c.loop-done.invariant
    (rw left (list_fail {S = ℕ} (λ _ _ rest. bytes_at rest) (λ known _. known) 0 n c.loop-done.texts.items c.loop-done.rest.now fault c.in_err-text.ensures)))

pub loop-done-preserved : goal.loop-done-preserved
loop-done-preserved c =
    let n : ℕ = c.args.count - (c.loop-done._done + 1) in
    let left : c.args.count - c.loop-done._done ≡ suc n = omega arith in
    let pushed : c.push.new.self.items ≡ c.loop-done.texts.items ++ c.in_ok-text.text.items ∷ [] = rw (← c.new.ensures) c.in_ok-push.ensures.items in
    ap (λ (l : List (List ℕ)). with_front l (texts_at n c.in_ok-text.after.now)) pushed
    ∙ sym (list_step {S = ℕ} (λ _ _ rest. bytes_at rest) (λ known _. known) 0 n c.loop-done.texts.items c.loop-done.rest.now c.in_ok-text.after.now c.in_ok-text.text.items c.in_ok-text.ensures)
    ∙ ap (λ (k : ℕ). with_front c.loop-done.texts.items (texts_at k c.loop-done.rest.now)) (sym left) ∙ c.loop-done.invariant
