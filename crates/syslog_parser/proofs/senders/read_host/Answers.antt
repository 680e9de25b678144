use Rattle.std.proofs.Common.{◌∙◌, ◌-◌, ◌≤◌, List, ℕ, ap, sym, refl, inl, inr, length, take_while, arith}
use Rattle.syslog_parser.specs.Bytes.{is_not_space}
use Rattle.syslog_parser.proofs.Over3164.{host_stops}
use Rattle.syslog_parser.proofs.Words.{cut_is, run_word}
use Rattle.syslog_parser.proofs.senders.read_host.Goals as goal
use Rattle.syslog_parser.proofs.senders.read_host.Goals.{then-count-eq0-via-then-count-eq0, then-count-eq0-via-else-count-eq0+then-not-stands}

pub returns-then-count-eq0-clause-fault : goal.returns-then-count-eq0-clause-fault
returns-then-count-eq0-clause-fault c =
    host_stops c.args.text.now c.unbroken_count-count.result (length c.args.text.now - c.unbroken_count-count.result)
    (c.unbroken_count-count.ensures ∙ ap (λ (l : List ℕ). length (take_while is_not_space l)) c.as_bytes.ensures.value)
    (elim c.then-count-eq0.branch [
      | then-count-eq0-via-then-count-eq0 w ↦ inl w.if-count-eq0.true
      | then-count-eq0-via-else-count-eq0+then-not-stands w ↦ inr (sym w.stands.ensures ∙ w.if-not-stands.true)
    ]) refl

pub returns-clause-ok : goal.returns-clause-ok
returns-clause-ok c =
    let some : 1 ≤ c.unbroken_count-count.result = omega arith in
    record {
      is = cut_is c.args.text.now c.cut.result.0.now c.cut.result.1.now c.unbroken_count-count.result 32 (sym c.stands.ensures ∙ c.if-not-stands.false) c.cut.ensures.front c.cut.ensures.behind;
      word =
          run_word is_not_space c.args.text.now c.unbroken_count-count.result (c.unbroken_count-count.ensures ∙ ap (λ (l : List ℕ). length (take_while is_not_space l)) c.as_bytes.ensures.value)
          c.cut.result.0.now c.cut.ensures.front some;
    }
