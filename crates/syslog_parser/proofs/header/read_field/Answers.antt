use Rattle.std.proofs.Common.{ℕ, List, ◌≤◌, ◌-◌, ◌∙◌, ap, sym, refl, length, take_while, arith}
use Rattle.syslog_parser.specs.Bytes.{is_printable}
use Rattle.syslog_parser.specs.Inner.Reads.{is_space}
use Rattle.syslog_parser.proofs.OtherBytes.{printable_no_space}
use Rattle.syslog_parser.proofs.Words.{too_long, cut_is, run_short}
use Rattle.syslog_parser.proofs.header.read_field.Goals as goal

pub returns-then-count-most-clause-fault : goal.returns-then-count-most-clause-fault
returns-then-count-most-clause-fault c =
    too_long is_printable c.args.text.now c.printable_count-count.result (c.printable_count-count.ensures ∙ ap (λ (l : List ℕ). length (take_while is_printable l)) c.as_bytes.ensures.value)
    is_space c.args.most (length c.args.text.now - c.args.most) printable_no_space c.if-count-most.true refl

pub returns-clause-ok : goal.returns-clause-ok
returns-clause-ok c =
    let few : c.printable_count-count.result ≤ c.args.most = omega arith in
    let some : 1 ≤ c.printable_count-count.result = omega arith in
    record {
      is = cut_is c.args.text.now c.cut.result.0.now c.cut.result.1.now c.printable_count-count.result 32 (sym c.stands.ensures ∙ c.if-not-stands.false) c.cut.ensures.front c.cut.ensures.behind;
      short =
          run_short is_printable c.args.text.now c.printable_count-count.result (c.printable_count-count.ensures ∙ ap (λ (l : List ℕ). length (take_while is_printable l)) c.as_bytes.ensures.value)
          c.cut.result.0.now c.args.most c.cut.ensures.front some few;
    }
