use Rattle.std.proofs.Common.{refl}
use Rattle.std.proofs.lemmas.Result.{err_from_is_err_and}
use Rattle.settings_text.specs.Grammar.{flags_of}
use Rattle.settings_text.proofs.flags_of.Goals as goal

pub returns-in_err-flag : goal.returns-in_err-flag
unfolding flags_of
returns-in_err-flag c =
    let r = c.from_residual in
    let p = err_from_is_err_and r.result r.ensures.1 in
    rw (p.1, p.2) (λ some. rw (c.in_err-flag.ensures some) refl)

pub returns-in_err-flag-2 : goal.returns-in_err-flag-2
unfolding flags_of
returns-in_err-flag-2 c =
    let r = c.from_residual-in_err-flag-2 in
    let p = err_from_is_err_and r.result r.ensures.1 in
    rw (p.1, p.2) (λ some. rw (c.in_ok-flag.ensures, c.in_err-flag-2.ensures some) refl)

pub returns-in_err-flag-3 : goal.returns-in_err-flag-3
unfolding flags_of
returns-in_err-flag-3 c =
    let r = c.from_residual-in_err-flag-3 in
    let p = err_from_is_err_and r.result r.ensures.1 in
    rw (p.1, p.2) (λ some. rw (c.in_ok-flag.ensures, c.in_ok-flag-2.ensures, c.in_err-flag-3.ensures some) refl)

pub returns-in_err-flag-4 : goal.returns-in_err-flag-4
unfolding flags_of
returns-in_err-flag-4 c =
    let r = c.from_residual-in_err-flag-4 in
    let p = err_from_is_err_and r.result r.ensures.1 in
    rw (p.1, p.2) (λ some. rw (c.in_ok-flag.ensures, c.in_ok-flag-2.ensures, c.in_ok-flag-3.ensures, c.in_err-flag-4.ensures some) refl)

pub returns-in_err-flag-5 : goal.returns-in_err-flag-5
unfolding flags_of
returns-in_err-flag-5 c =
    let r = c.from_residual-in_err-flag-5 in
    let p = err_from_is_err_and r.result r.ensures.1 in
    rw (p.1, p.2) (λ some. rw (c.in_ok-flag.ensures, c.in_ok-flag-2.ensures, c.in_ok-flag-3.ensures, c.in_ok-flag-4.ensures, c.in_err-flag-5.ensures some) refl)

pub returns : goal.returns
unfolding flags_of
returns c = rw (c.in_ok-flag.ensures, c.in_ok-flag-2.ensures, c.in_ok-flag-3.ensures, c.in_ok-flag-4.ensures, c.in_ok-flag-5.ensures) refl
