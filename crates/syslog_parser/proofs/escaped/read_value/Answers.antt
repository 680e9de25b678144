use Rattle.std.proofs.Common.{◌∙◌, List, ℕ, ap, sym, length, take_while, subst}
use Rattle.syslog_parser.specs.Bytes.{is_plain}
use Rattle.syslog_parser.specs.Structured.{IsContent}
use Rattle.syslog_parser.proofs.ReadingValues.{plain_value}
use Rattle.syslog_parser.proofs.escaped.read_value.Goals as goal

pub returns-then-stands-clause-ok : goal.returns-then-stands-clause-ok
returns-then-stands-clause-ok c =
    subst (λ (v : List ℕ). IsContent c.args.text.now v c.cut.result.1.now) (sym c.in_ok-from_str.ensures)
    (plain_value c.args.text.now c.cut.result.0.now c.cut.result.1.now c.plain_count-count.result
    (c.plain_count-count.ensures ∙ ap (λ (l : List ℕ). length (take_while is_plain l)) c.as_bytes.ensures.value)
    (sym c.stands.ensures ∙ c.if-stands.true) c.cut.ensures.front c.cut.ensures.behind)
