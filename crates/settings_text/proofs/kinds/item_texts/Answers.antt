use Rattle.std.proofs.Common.{◌++◌}
use Rattle.std.proofs.lemmas.Result.{err_from_is_err_and}
use Rattle.serde_json.specs.View.{items_view}
use Rattle.settings_text.specs.Kinds.{text, item_texts}
use Rattle.settings_text.specs.Place.{item_place}
use Rattle.settings_text.proofs.InTurn.{goes_on, ends, is_done}
use Rattle.settings_text.proofs.kinds.item_texts.Goals as goal

pub returns-in_err-text : goal.returns-in_err-text
returns-in_err-text c =
    let p = err_from_is_err_and c.from_residual.result c.from_residual.ensures.1 in
    rw (p.1, p.2, ← c.deref-value-items.ensures.value) (ends c.in_err-text.field-0.0 (λ n. text (item_place (c.args.at.now ++ c.args.key.now) n)) c.deref-value-items.result.now c.loop-index.texts.items c.loop-index.index c.value-item.result
    (item_texts (c.args.at.now ++ c.args.key.now) (items_view c.deref-value-items.result.now)) c.loop-index-test.true c.value-item.is c.in_err-text.ensures c.loop-index.invariant)

pub loop-index-preserved : goal.loop-index-preserved
loop-index-preserved c =
    rw c.in_ok-push.ensures.items
    (goes_on (λ n. text (item_place (c.args.at.now ++ c.args.key.now) n)) c.deref-value-items.result.now c.loop-index.texts.items c.loop-index.index c.value-item.result c.in_ok-text.text
    (item_texts (c.args.at.now ++ c.args.key.now) (items_view c.deref-value-items.result.now)) c.loop-index-test.true c.value-item.is c.in_ok-text.ensures c.loop-index.invariant)

pub returns : goal.returns
returns c =
    rw (c.new.ensures, ← c.deref-value-items.ensures.value) (is_done (λ n. text (item_place (c.args.at.now ++ c.args.key.now) n)) c.deref-value-items.result.now c.loop-index.texts.items c.loop-index.index
    (item_texts (c.args.at.now ++ c.args.key.now) (items_view c.deref-value-items.result.now)) c.loop-index-test.false c.loop-index.invariant)
