use Rattle.std.proofs.Common.{◌≤◌, ◌<◌, codes, length, refl}
use Rattle.std.proofs.lemmas.Result.{err_from_is_err_and}
use Rattle.settings_text.proofs.InTurn.{few, too_many}
use Rattle.settings_text.proofs.operators.operators.Goals as goal

pub returns-then-as_slice-gt-MOST_OPERATORS : goal.returns-then-as_slice-gt-MOST_OPERATORS
returns-then-as_slice-gt-MOST_OPERATORS c = λ _.
    let vs = c.in-Some-as_array.values.now.items in
    let many : 64 < length vs = rw (← c.as_slice.ensures.value) c.if-as_slice-gt-MOST_OPERATORS.true in
    rw (← c.in-Some.ensures, ← c.in-Some-as_array.ensures, too_many (codes "operators") vs many, c.in_ok-place-2.ensures) refl

pub returns-in_err-drafts : goal.returns-in_err-drafts
returns-in_err-drafts c =
    let r = c.from_residual-in_err-drafts in
    let p = err_from_is_err_and r.result r.ensures.1 in
    let vs = c.in-Some-as_array.values.now.items in
    let le : length vs ≤ 64 = rw (← c.as_slice.ensures.value) c.if-as_slice-gt-MOST_OPERATORS.false in
    rw (p.1, p.2) (λ some. rw (← c.in-Some.ensures, ← c.in-Some-as_array.ensures, few (codes "operators") vs le, c.in_err-drafts.ensures some) refl)

pub returns : goal.returns
returns c =
    let vs = c.in-Some-as_array.values.now.items in
    let le : length vs ≤ 64 = rw (← c.as_slice.ensures.value) c.if-as_slice-gt-MOST_OPERATORS.false in
    rw (← c.in-Some.ensures, ← c.in-Some-as_array.ensures, few (codes "operators") vs le, c.in_ok-drafts.ensures, c.new-2.ensures, c.in_ok-settle_all.ensures, c.in_ok-taken.ensures, c.deref.ensures.value) refl
