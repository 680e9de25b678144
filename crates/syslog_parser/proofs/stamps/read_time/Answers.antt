use Rattle.std.proofs.Common.{◌∙◌, List, ℕ, Some, ap, sym, length, take_while}
use Rattle.syslog_parser.specs.Bytes.{is_not_space}
use Rattle.syslog_parser.proofs.ReadingHeads.{time_none, time_some, no_time}
use Rattle.syslog_parser.proofs.stamps.read_time.Goals as goal

pub returns-then-not-stands-clause-none : goal.returns-then-not-stands-clause-none
returns-then-not-stands-clause-none c =
    time_none c.args.text.now c.unbroken_count-count.result (c.unbroken_count-count.ensures ∙ ap (λ (l : List ℕ). length (take_while is_not_space l)) c.as_bytes.ensures.value)
    (sym c.stands.ensures ∙ c.if-not-stands.true)

pub returns-in-Ok-clause-some : goal.returns-in-Ok-clause-some
returns-in-Ok-clause-some c =
    time_some c.args.text.now c.unbroken_count-count.result (c.unbroken_count-count.ensures ∙ ap (λ (l : List ℕ). length (take_while is_not_space l)) c.as_bytes.ensures.value)
    c.cut.result.0.now c.cut.result.1.now c.cut.ensures.front c.cut.ensures.behind (sym c.stands.ensures ∙ c.if-not-stands.false) (Some c.in-Ok.instant) c.in-Ok.ensures

pub returns-in-Err-clause-none : goal.returns-in-Err-clause-none
returns-in-Err-clause-none c =
    no_time c.args.text.now c.unbroken_count-count.result (c.unbroken_count-count.ensures ∙ ap (λ (l : List ℕ). length (take_while is_not_space l)) c.as_bytes.ensures.value)
    c.cut.result.0.now c.cut.result.1.now c.cut.ensures.front c.cut.ensures.behind (sym c.stands.ensures ∙ c.if-not-stands.false)
    c.in-Err.field-0 (sym c.eq.ensures ∙ c.if-eq.false) c.in-Err.ensures
