use Rattle.std.proofs.Common.{◌∙◌, ◌-◌, ◌≤◌, List, ℕ, ap, sym, refl, inl, inr, length, take_while, arith}
use Rattle.syslog_parser.specs.Bytes.{is_bracketed}
use Rattle.syslog_parser.proofs.ReadingSenders.{bracket_first, process_fault, colon_fault, process_read, no_process_read}
use Rattle.syslog_parser.proofs.Words.{first_is, cut_is, run_word}
use Rattle.syslog_parser.proofs.senders.read_process.Goals as goal
use Rattle.syslog_parser.proofs.senders.read_process.Goals.{then-count-eq0-via-then-count-eq0, then-count-eq0-via-else-count-eq0+then-not-stands}

pub returns-then-stands-clause-ok : goal.returns-then-stands-clause-ok
returns-then-stands-clause-ok c = no_process_read c.args.text.now c.cut.result.1.now (first_is c.args.text.now c.cut.result.1.now 58 (sym c.stands.ensures ∙ c.if-stands.true) c.cut.ensures.behind)

pub returns-then-count-eq0-clause-fault : goal.returns-then-count-eq0-clause-fault
returns-then-count-eq0-clause-fault c =
    process_fault c.args.text.now c.cut.result.1.now (bracket_first c.args.text.now c.cut.result.1.now c.requires (sym c.stands.ensures ∙ c.if-stands.false) c.cut.ensures.behind)
    c.bracketed_count-count.result (length c.cut.result.1.now - c.bracketed_count-count.result)
    (c.bracketed_count-count.ensures ∙ ap (λ (l : List ℕ). length (take_while is_bracketed l)) c.as_bytes.ensures.value)
    (elim c.then-count-eq0.branch [
      | then-count-eq0-via-then-count-eq0 w ↦ inl w.if-count-eq0.true
      | then-count-eq0-via-else-count-eq0+then-not-stands w ↦ inr (sym w.stands-else-count-eq0.ensures ∙ w.if-not-stands.true)
    ]) refl

pub returns-then-not-stands-2-clause-fault : goal.returns-then-not-stands-2-clause-fault
returns-then-not-stands-2-clause-fault c =
    let some : 1 ≤ c.bracketed_count-count.result = omega arith in
    colon_fault c.args.text.now c.cut.result.1.now (bracket_first c.args.text.now c.cut.result.1.now c.requires (sym c.stands.ensures ∙ c.if-stands.false) c.cut.ensures.behind)
    c.cut-2.result.0.now c.cut-2.result.1.now
    (cut_is c.cut.result.1.now c.cut-2.result.0.now c.cut-2.result.1.now c.bracketed_count-count.result 93 (sym c.stands-else-count-eq0.ensures ∙ c.if-not-stands.false) c.cut-2.ensures.front c.cut-2.ensures.behind)
    (run_word is_bracketed c.cut.result.1.now c.bracketed_count-count.result (c.bracketed_count-count.ensures ∙ ap (λ (l : List ℕ). length (take_while is_bracketed l)) c.as_bytes.ensures.value)
    c.cut-2.result.0.now c.cut-2.ensures.front some)
    (sym c.stands-2.ensures ∙ c.if-not-stands-2.true)

pub returns-clause-ok : goal.returns-clause-ok
returns-clause-ok c =
    let some : 1 ≤ c.bracketed_count-count.result = omega arith in
    process_read c.args.text.now c.cut.result.1.now (bracket_first c.args.text.now c.cut.result.1.now c.requires (sym c.stands.ensures ∙ c.if-stands.false) c.cut.ensures.behind)
    c.cut-2.result.0.now c.cut-2.result.1.now
    (cut_is c.cut.result.1.now c.cut-2.result.0.now c.cut-2.result.1.now c.bracketed_count-count.result 93 (sym c.stands-else-count-eq0.ensures ∙ c.if-not-stands.false) c.cut-2.ensures.front c.cut-2.ensures.behind)
    (run_word is_bracketed c.cut.result.1.now c.bracketed_count-count.result (c.bracketed_count-count.ensures ∙ ap (λ (l : List ℕ). length (take_while is_bracketed l)) c.as_bytes.ensures.value)
    c.cut-2.result.0.now c.cut-2.ensures.front some)
    c.cut-3.result.1.now (first_is c.cut-2.result.1.now c.cut-3.result.1.now 58 (sym c.stands-2.ensures ∙ c.if-not-stands-2.false) c.cut-3.ensures.behind)
