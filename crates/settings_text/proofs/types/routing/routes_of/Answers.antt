use Rattle.std.proofs.Common.{◌++◌, codes}
use Rattle.std.proofs.lemmas.Result.{err_from_is_err_and}
use Rattle.serde_json.specs.View.{items_view}
use Rattle.settings_text.specs.Kinds.{each}
use Rattle.settings_text.specs.Types.Routing.{route}
use Rattle.settings_text.proofs.InTurn.{goes_on, ends, is_done}
use Rattle.settings_text.proofs.types.routing.routes_of.Goals as goal

pub returns-in_err-route : goal.returns-in_err-route
returns-in_err-route c =
    let p = err_from_is_err_and c.from_residual.result c.from_residual.ensures.1 in
    let vs = c.deref-value-items.result.now in
    let read = route (c.args.at.now ++ codes "routes") in
    rw (p.1, p.2, ← c.deref-value-items.ensures.value)
    (ends c.in_err-route.field-0.0 read vs c.loop-index.routes.items c.loop-index.index c.value-item.result (each read 0 (items_view vs)) c.loop-index-test.true c.value-item.is c.in_err-route.ensures c.loop-index.invariant)

pub loop-index-preserved : goal.loop-index-preserved
loop-index-preserved c =
    let vs = c.deref-value-items.result.now in
    let read = route (c.args.at.now ++ codes "routes") in
    rw c.in_ok-push.ensures.items
    (goes_on read vs c.loop-index.routes.items c.loop-index.index c.value-item.result c.in_ok-route.route (each read 0 (items_view vs)) c.loop-index-test.true c.value-item.is c.in_ok-route.ensures c.loop-index.invariant)

pub returns : goal.returns
returns c =
    let vs = c.deref-value-items.result.now in
    let read = route (c.args.at.now ++ codes "routes") in
    rw (c.new.ensures, ← c.deref-value-items.ensures.value) (is_done read vs c.loop-index.routes.items c.loop-index.index (each read 0 (items_view vs)) c.loop-index-test.false c.loop-index.invariant)
