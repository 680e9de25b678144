use Rattle.std.proofs.Common.{◌≡◌, ◌<◌, ◌∙◌, List, ap, sym, subst, length, get_or, true, arith}
use Rattle.expr_lang.specs.Begun.{is_group}
use Rattle.expr_lang.specs.declared.frames.Frame as code
use Rattle.expr_lang.specs.Machine.{frame}
use Rattle.expr_lang.proofs.Stacks.{group_found}
use Rattle.expr_lang.proofs.frames.has_group.Goals as goal

pub returns-then-is_group : goal.returns-then-is_group
returns-then-is_group c =
    let items = c.args.frames.now.items in
    let i = c.loop-frame.frame-index in
    let one = c.frame-item.result in
    let value : c.deref-frame-items.result.now ≡ items = c.deref-frame-items.ensures.value in
    let here : one ≡ get_or items i one = c.frame-item.is ∙ ap (λ (l : List code.Frame). get_or l i one) value in
    let inside : i < length items = (let n = ap length value in let t = c.loop-frame-test.true in omega (arith, n, t)) in
    group_found items i one c.loop-frame.invariant inside (subst (λ (f : code.Frame). is_group (frame f) ≡ true) here (sym c.is_group.ensures ∙ c.if-is_group.true))
