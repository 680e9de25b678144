use Rattle.std.proofs.Common.{refl}
use Rattle.std.proofs.lemmas.Result.{err_from_is_err_and}
use Rattle.settings_text.specs.Grammar.{settings_of}
use Rattle.settings_text.proofs.settings_of.Goals as goal

pub returns-in_err-check_known : goal.returns-in_err-check_known
unfolding settings_of
returns-in_err-check_known c =
    let r = c.from_residual in
    let p = err_from_is_err_and r.result r.ensures.1 in
    rw (p.1, p.2) (λ some. rw (← c.in-Some.ensures, c.in_err-check_known.ensures some) refl)

pub returns-in_err-include : goal.returns-in_err-include
unfolding settings_of
returns-in_err-include c =
    let r = c.from_residual-in_err-include in
    let p = err_from_is_err_and r.result r.ensures.1 in
    rw (p.1, p.2) (λ some. rw (← c.in-Some.ensures, c.in_ok-check_known.ensures, c.in_err-include.ensures some) refl)

pub returns-in_err-exclude : goal.returns-in_err-exclude
unfolding settings_of
returns-in_err-exclude c =
    let r = c.from_residual-in_err-exclude in
    let p = err_from_is_err_and r.result r.ensures.1 in
    rw (p.1, p.2) (λ some. rw (← c.in-Some.ensures, c.in_ok-check_known.ensures, c.in_ok-include.ensures, c.in_err-exclude.ensures some) refl)

pub returns-in_err-start_at : goal.returns-in_err-start_at
unfolding settings_of
returns-in_err-start_at c =
    let r = c.from_residual-in_err-start_at in
    let p = err_from_is_err_and r.result r.ensures.1 in
    rw (p.1, p.2) (λ some. rw (← c.in-Some.ensures, c.in_ok-check_known.ensures, c.in_ok-include.ensures, c.in_ok-exclude.ensures, c.in_err-start_at.ensures some) refl)

pub returns-in_err-fingerprint_size : goal.returns-in_err-fingerprint_size
unfolding settings_of
returns-in_err-fingerprint_size c =
    let r = c.from_residual-in_err-fingerprint_size in
    let p = err_from_is_err_and r.result r.ensures.1 in
    rw (p.1, p.2) (λ some. rw (← c.in-Some.ensures, c.in_ok-check_known.ensures, c.in_ok-include.ensures, c.in_ok-exclude.ensures, c.in_ok-start_at.ensures, c.in_err-fingerprint_size.ensures some) refl)

pub returns-in_err-max_log_size : goal.returns-in_err-max_log_size
unfolding settings_of
returns-in_err-max_log_size c =
    let r = c.from_residual-in_err-max_log_size in
    let p = err_from_is_err_and r.result r.ensures.1 in
    rw (p.1, p.2) (λ some. rw (← c.in-Some.ensures, c.in_ok-check_known.ensures, c.in_ok-include.ensures, c.in_ok-exclude.ensures, c.in_ok-start_at.ensures, c.in_ok-fingerprint_size.ensures, c.in_err-max_log_size.ensures some) refl)

pub returns-in_err-multiline : goal.returns-in_err-multiline
unfolding settings_of
returns-in_err-multiline c =
    let r = c.from_residual-in_err-multiline in
    let p = err_from_is_err_and r.result r.ensures.1 in
    rw (p.1, p.2) (λ some. rw (← c.in-Some.ensures, c.in_ok-check_known.ensures, c.in_ok-include.ensures, c.in_ok-exclude.ensures, c.in_ok-start_at.ensures, c.in_ok-fingerprint_size.ensures, c.in_ok-max_log_size.ensures, c.in_err-multiline.ensures some) refl)

pub returns-in_err-flags : goal.returns-in_err-flags
unfolding settings_of
returns-in_err-flags c =
    let r = c.from_residual-in_err-flags in
    let p = err_from_is_err_and r.result r.ensures.1 in
    rw (p.1, p.2) (λ some. rw (← c.in-Some.ensures, c.in_ok-check_known.ensures, c.in_ok-include.ensures, c.in_ok-exclude.ensures, c.in_ok-start_at.ensures, c.in_ok-fingerprint_size.ensures, c.in_ok-max_log_size.ensures, c.in_ok-multiline.ensures, c.in_err-flags.ensures some) refl)

pub returns-in_err-attributes : goal.returns-in_err-attributes
unfolding settings_of
returns-in_err-attributes c =
    let r = c.from_residual-in_err-attributes in
    let p = err_from_is_err_and r.result r.ensures.1 in
    rw (p.1, p.2) (λ some. rw (← c.in-Some.ensures, c.in_ok-check_known.ensures, c.in_ok-include.ensures, c.in_ok-exclude.ensures, c.in_ok-start_at.ensures, c.in_ok-fingerprint_size.ensures, c.in_ok-max_log_size.ensures, c.in_ok-multiline.ensures, c.in_ok-flags.ensures, c.in_err-attributes.ensures some) refl)

pub returns-in_err-resource : goal.returns-in_err-resource
unfolding settings_of
returns-in_err-resource c =
    let r = c.from_residual-in_err-resource in
    let p = err_from_is_err_and r.result r.ensures.1 in
    rw (p.1, p.2) (λ some. rw (← c.in-Some.ensures, c.in_ok-check_known.ensures, c.in_ok-include.ensures, c.in_ok-exclude.ensures, c.in_ok-start_at.ensures, c.in_ok-fingerprint_size.ensures, c.in_ok-max_log_size.ensures, c.in_ok-multiline.ensures, c.in_ok-flags.ensures, c.in_ok-attributes.ensures, c.in_err-resource.ensures some) refl)

pub returns-in_err-operators : goal.returns-in_err-operators
unfolding settings_of
returns-in_err-operators c =
    let r = c.from_residual-in_err-operators in
    let p = err_from_is_err_and r.result r.ensures.1 in
    rw (p.1, p.2) (λ some. rw (← c.in-Some.ensures, c.in_ok-check_known.ensures, c.in_ok-include.ensures, c.in_ok-exclude.ensures, c.in_ok-start_at.ensures, c.in_ok-fingerprint_size.ensures, c.in_ok-max_log_size.ensures, c.in_ok-multiline.ensures, c.in_ok-flags.ensures, c.in_ok-attributes.ensures, c.in_ok-resource.ensures, c.in_err-operators.ensures some) refl)

pub returns-in_err-include_observed_time : goal.returns-in_err-include_observed_time
unfolding settings_of
returns-in_err-include_observed_time c =
    let r = c.from_residual-in_err-include_observed_time in
    let p = err_from_is_err_and r.result r.ensures.1 in
    rw (p.1, p.2) (λ some. rw (← c.in-Some.ensures, c.in_ok-check_known.ensures, c.in_ok-include.ensures, c.in_ok-exclude.ensures, c.in_ok-start_at.ensures, c.in_ok-fingerprint_size.ensures, c.in_ok-max_log_size.ensures, c.in_ok-multiline.ensures, c.in_ok-flags.ensures, c.in_ok-attributes.ensures, c.in_ok-resource.ensures, c.in_ok-operators.ensures, c.in_err-include_observed_time.ensures some) refl)

pub returns-in_err-flush_after_polls : goal.returns-in_err-flush_after_polls
unfolding settings_of
returns-in_err-flush_after_polls c =
    let r = c.from_residual-in_err-flush_after_polls in
    let p = err_from_is_err_and r.result r.ensures.1 in
    rw (p.1, p.2) (λ some. rw (← c.in-Some.ensures, c.in_ok-check_known.ensures, c.in_ok-include.ensures, c.in_ok-exclude.ensures, c.in_ok-start_at.ensures, c.in_ok-fingerprint_size.ensures, c.in_ok-max_log_size.ensures, c.in_ok-multiline.ensures, c.in_ok-flags.ensures, c.in_ok-attributes.ensures, c.in_ok-resource.ensures, c.in_ok-operators.ensures, c.in_ok-include_observed_time.ensures, c.in_err-flush_after_polls.ensures some) refl)

pub returns : goal.returns
unfolding settings_of
returns c = rw (← c.in-Some.ensures, c.in_ok-check_known.ensures, c.in_ok-include.ensures, c.in_ok-exclude.ensures, c.in_ok-start_at.ensures, c.in_ok-fingerprint_size.ensures, c.in_ok-max_log_size.ensures, c.in_ok-multiline.ensures, c.in_ok-flags.ensures, c.in_ok-attributes.ensures, c.in_ok-resource.ensures, c.in_ok-operators.ensures, c.in_ok-include_observed_time.ensures, c.in_ok-flush_after_polls.ensures) refl
