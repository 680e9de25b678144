use Rattle.std.proofs.Common.{ℕ, List, ◌≤◌, ◌-◌, ◌∙◌, ap, sym, refl, length, take_while, arith}
use Rattle.syslog_parser.specs.Bytes.{is_name_byte}
use Rattle.syslog_parser.specs.Inner.Reads.{is_equals_sign}
use Rattle.syslog_parser.proofs.OtherBytes.{name_no_equals}
use Rattle.syslog_parser.proofs.Words.{too_long, cut_is, run_short}
use Rattle.syslog_parser.proofs.params.read_name.Goals as goal

pub returns-then-count-gt32-clause-fault : goal.returns-then-count-gt32-clause-fault
returns-then-count-gt32-clause-fault c =
    too_long is_name_byte c.args.text.now c.name_count-count.result (c.name_count-count.ensures ∙ ap (λ (l : List ℕ). length (take_while is_name_byte l)) c.as_bytes.ensures.value)
    is_equals_sign 32 (length c.args.text.now - 32) name_no_equals c.if-count-gt32.true refl

pub returns-clause-ok : goal.returns-clause-ok
returns-clause-ok c =
    let few : c.name_count-count.result ≤ 32 = omega arith in
    let some : 1 ≤ c.name_count-count.result = omega arith in
    record {
      is = cut_is c.args.text.now c.cut.result.0.now c.cut.result.1.now c.name_count-count.result 61 (sym c.stands.ensures ∙ c.if-not-stands.false) c.cut.ensures.front c.cut.ensures.behind;
      name =
          run_short is_name_byte c.args.text.now c.name_count-count.result (c.name_count-count.ensures ∙ ap (λ (l : List ℕ). length (take_while is_name_byte l)) c.as_bytes.ensures.value)
          c.cut.result.0.now 32 c.cut.ensures.front some few;
    }
