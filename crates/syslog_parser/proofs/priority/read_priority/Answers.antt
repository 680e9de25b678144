use Rattle.std.proofs.Common.{◌∙◌, ap, sym, take}
use Rattle.syslog_parser.proofs.ReadingHeads.{priority_none, no_digits, many_digits, too_great, unclosed}
use Rattle.syslog_parser.proofs.Words.{first_is}
use Rattle.syslog_parser.proofs.priority.read_priority.Goals as goal
use Rattle.syslog_parser.proofs.priority.read_priority.Goals.{then-count-eq0-via-then-count-eq0, then-count-eq0-via-else-count-eq0+then-count-gt3, then-count-eq0-via-else-count-eq0+else-count-gt3+then-value-gt191, then-count-eq0-via-else-count-eq0+else-count-gt3+else-value-gt191+then-not-stands-2}

pub returns-then-count-eq0-clause-none : goal.returns-then-count-eq0-clause-none
returns-then-count-eq0-clause-none c =
    priority_none c.args.text.now c.cut.result.1.now c.front.result.now c.read_digits-value.result.0 c.read_digits-value.result.1
    (first_is c.args.text.now c.cut.result.1.now 60 (sym c.stands.ensures ∙ c.if-not-stands.false) c.cut.ensures.behind)
    (c.front.ensures ∙ ap (take 4) c.as_bytes.ensures.value)
    c.read_digits-value.ensures.count c.read_digits-value.ensures.value
    (elim c.then-count-eq0.branch [
      | then-count-eq0-via-then-count-eq0 w ↦ no_digits w.if-count-eq0.true
      | then-count-eq0-via-else-count-eq0+then-count-gt3 w ↦ many_digits w.if-count-gt3.true
      | then-count-eq0-via-else-count-eq0+else-count-gt3+then-value-gt191 w ↦ too_great w.if-value-gt191.true
      | then-count-eq0-via-else-count-eq0+else-count-gt3+else-value-gt191+then-not-stands-2 w ↦ unclosed (sym w.stands-else-value-gt191.ensures ∙ w.if-not-stands-2.true)
    ])
