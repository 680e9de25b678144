use Rattle.std.proofs.Common.{ℕ, ◌+◌, ◌<◌, ap, sym, subst, List, length, get_or, Option, not, ◌∙◌, arith}
use Rattle.std.proofs.lemmas.Bool.{false≢true}
use Rattle.text_parsers.proofs.Quoting.{Opened, opened_more}
use Rattle.text_parsers.proofs.quotes.unclosed_from.Goals as goal
use Rattle.text_parsers.proofs.quotes.unclosed_from.Goals.{then-is_none, else-is_none}

pub loop-at-init : goal.loop-at-init
loop-at-init c = record { is = c.requires.outside; since = tt }

pub loop-at-preserved : goal.loop-at-preserved
loop-at-preserved c =
    let at = c.loop-at.at in
    let same = c.as_bytes-bytes.ensures.value in
    let inside : at < length c.args.text.now = let e = ap length same in omega arith in
    subst (λ (q : Option ℕ). Opened c.args.text.now (at + 1) q c.if-is_none.place) (sym c.open_behind-quote.ensures)
    (opened_more c.args.text.now at c.loop-at.place c.if-is_none.place (get_or c.as_bytes-bytes.result.now at 0) c.loop-at.quote inside
    (ap (λ (l : List ℕ). get_or l at 0) same)
    (λ e. elim c.if-is_none.branch [ then-is_none w ↦ w.place-is | else-is_none w ↦ absurd (false≢true (sym (ap not w.if-is_none.ensures) ∙ e)) ])
    (λ e. elim c.if-is_none.branch [ then-is_none w ↦ absurd (false≢true (sym e ∙ ap not w.if-is_none.ensures)) | else-is_none w ↦ w.place-is ])
    c.loop-at.invariant)
