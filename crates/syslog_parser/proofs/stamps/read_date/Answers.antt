use mir.Syntax.{w32}
use Rattle.std.proofs.lemmas.Int.{to_z-of_z}
use Rattle.syslog_parser.specs.Stamps.{of_month}
use Rattle.std.proofs.Common.{◌∙◌, List, ℤ, ap, sym, take, bytes_eq}
use Rattle.case_table.specs.Rows.{Named, first_code}
use Rattle.syslog_parser.proofs.ReadingHeads.{date_some, no_clock, no_instant}
use Rattle.syslog_parser.proofs.stamps.read_date.Goals as goal

pub returns-in_err-said-clause-none : goal.returns-in_err-said-clause-none
returns-in_err-said-clause-none c = rw c.from_residual-in_err-said.ensures (λ time more d.
    no_clock c.args.year c.args.location c.args.text.now c.cut.result.0.now c.cut.result.1.now c.as_bytes-bytes.result.now c.in_ok-month.month
    c.cut.ensures.front c.cut.ensures.behind (sym c.stands.ensures ∙ c.if-not-stands.false) c.as_bytes-bytes.ensures.value
    (ap (λ (t : List Named). first_code (bytes_eq (take 3 c.as_bytes-bytes.result.now)) t) (sym c.months.ensures) ∙ sym c.find_bytes.ensures ∙ c.in_ok-month.was)
    time more d c.of_month.result
    (c.of_month.ensures ∙ ap (λ (z : ℤ). of_month c.args.year c.in_ok-month.month z) (to_z-of_z w32 c.args.location c.ranges.location))
    c.in_err-said.ensures.none)

pub returns-in-Ok-clause-some : goal.returns-in-Ok-clause-some
returns-in-Ok-clause-some c =
    date_some c.args.year c.args.location c.args.text.now c.cut.result.0.now c.cut.result.1.now c.as_bytes-bytes.result.now c.in_ok-month.month
    c.cut.ensures.front c.cut.ensures.behind (sym c.stands.ensures ∙ c.if-not-stands.false) c.as_bytes-bytes.ensures.value
    (ap (λ (t : List Named). first_code (bytes_eq (take 3 c.as_bytes-bytes.result.now)) t) (sym c.months.ensures) ∙ sym c.find_bytes.ensures ∙ c.in_ok-month.was)
    c.in_ok-said.said c.of_month.result c.in-Ok.instant
    (c.of_month.ensures ∙ ap (λ (z : ℤ). of_month c.args.year c.in_ok-month.month z) (to_z-of_z w32 c.args.location c.ranges.location)) c.in_ok-said.ensures.some c.in-Ok.ensures

pub returns-in-Err-clause-none : goal.returns-in-Err-clause-none
returns-in-Err-clause-none c time more d =
    no_instant c.args.year c.args.location c.args.text.now c.cut.result.0.now c.cut.result.1.now c.as_bytes-bytes.result.now c.in_ok-month.month
    c.cut.ensures.front c.cut.ensures.behind (sym c.stands.ensures ∙ c.if-not-stands.false) c.as_bytes-bytes.ensures.value
    (ap (λ (t : List Named). first_code (bytes_eq (take 3 c.as_bytes-bytes.result.now)) t) (sym c.months.ensures) ∙ sym c.find_bytes.ensures ∙ c.in_ok-month.was)
    time more d c.in_ok-said.said c.of_month.result c.in-Err.field-0
    (c.of_month.ensures ∙ ap (λ (z : ℤ). of_month c.args.year c.in_ok-month.month z) (to_z-of_z w32 c.args.location c.ranges.location)) c.in_ok-said.ensures.some c.in-Err.ensures
