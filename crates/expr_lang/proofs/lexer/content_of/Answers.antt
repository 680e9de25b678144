use Rattle.std.proofs.Common.{◌∙◌, refl}
use Rattle.expr_lang.proofs.Quotes.{escape_taken, backslash_taken, byte_taken, escape_refused, text_ended, text_open, from_start}
use Rattle.expr_lang.proofs.lexer.content_of.Goals as goal
use Rattle.expr_lang.proofs.lexer.content_of.Goals.{then-behind+in-Some+in_ok-push, else-behind+then-byte-eq92, else-behind+else-byte-eq92+else-byte-quote+in_ok-push-2}

pub returns-in_default-clause-value : goal.returns-in_default-clause-value
returns-in_default-clause-value c =
    let l = c.loop-index in
    l.invariant ∙ escape_refused l.content.items l.content.items c.args.quote l.index l.behind l.behind c.args.inner.now c.loop-index-test.true c.if-behind.true c.in_default.ensures

pub returns-then-byte-quote-clause-value : goal.returns-then-byte-quote-clause-value
returns-then-byte-quote-clause-value c =
    let l = c.loop-index in
    l.invariant ∙ text_ended l.content.items l.content.items c.args.quote l.index l.behind l.behind c.args.inner.now c.loop-index-test.true c.if-behind.false c.if-byte-eq92.false c.if-byte-quote.true

pub loop-index-preserved : goal.loop-index-preserved
loop-index-preserved c =
    let l = c.loop-index in
    elim c.if-behind.branch [
      | then-behind+in-Some+in_ok-push w ↦ l.invariant ∙ escape_taken l.content.items c.if-behind.content.items c.args.quote l.index l.behind c.if-behind.behind c.args.inner.now c.loop-index-test.true w.in-Some.byte w.if-behind.true w.behind-is w.in-Some.ensures (rw w.content-is w.in_ok-push.ensures.items)
      | else-behind+then-byte-eq92 w ↦ l.invariant ∙ backslash_taken l.content.items c.if-behind.content.items c.args.quote l.index l.behind c.if-behind.behind c.args.inner.now c.loop-index-test.true w.if-behind.false w.behind-is w.if-byte-eq92.true (rw w.content-is refl)
      | else-behind+else-byte-eq92+else-byte-quote+in_ok-push-2 w ↦ l.invariant ∙ byte_taken l.content.items c.if-behind.content.items c.args.quote l.index l.behind c.if-behind.behind c.args.inner.now c.loop-index-test.true w.if-behind.false (w.behind-is ∙ w.if-behind.false) w.if-byte-eq92.false w.if-byte-quote.false (rw w.content-is w.in_ok-push-2.ensures.items)
    ]

pub returns-clause-value : goal.returns-clause-value
returns-clause-value c =
    let l = c.loop-index in
    l.invariant ∙ text_open l.content.items c.args.quote l.index l.behind c.args.inner.now c.loop-index-test.false

pub loop-index-init : goal.loop-index-init
loop-index-init c = rw c.new-content.ensures.items (from_start c.args.quote c.args.inner.now)
