use Rattle.std.proofs.lemmas.Result.{err_from_is_err_and}
use Rattle.serde_json.specs.View.{items_view}
use Rattle.settings_text.specs.Kinds.{each}
use Rattle.settings_text.specs.Operators.{draft}
use Rattle.settings_text.proofs.InTurn.{goes_on, ends, is_done}
use Rattle.settings_text.proofs.operators.drafts_of.Goals as goal

pub returns-in_err-draft : goal.returns-in_err-draft
returns-in_err-draft c =
    let p = err_from_is_err_and c.from_residual.result c.from_residual.ensures.1 in
    let vs = c.deref-value-items.result.now in
    rw (p.1, p.2, ← c.deref-value-items.ensures.value)
    (ends c.in_err-draft.field-0.0 draft vs c.loop-index.drafts.items c.loop-index.index c.value-item.result (each draft 0 (items_view vs)) c.loop-index-test.true c.value-item.is c.in_err-draft.ensures c.loop-index.invariant)

pub loop-index-preserved : goal.loop-index-preserved
loop-index-preserved c =
    let vs = c.deref-value-items.result.now in
    rw c.in_ok-push.ensures.items
    (goes_on draft vs c.loop-index.drafts.items c.loop-index.index c.value-item.result c.in_ok-draft.draft (each draft 0 (items_view vs)) c.loop-index-test.true c.value-item.is c.in_ok-draft.ensures c.loop-index.invariant)

pub returns : goal.returns
returns c =
    let vs = c.deref-value-items.result.now in
    rw (← c.deref-value-items.ensures.value) (is_done draft vs c.loop-index.drafts.items c.loop-index.index (each draft 0 (items_view vs)) c.loop-index-test.false c.loop-index.invariant)
