use Rattle.std.proofs.Common.{ℕ, List, ◌≤◌, ◌-◌, ◌∙◌, ap, sym, refl, length, take_while, arith}
use Rattle.syslog_parser.specs.Bytes.{is_name_byte}
use Rattle.syslog_parser.specs.Inner.Reads.{ends_id}
use Rattle.syslog_parser.proofs.OtherBytes.{name_no_end}
use Rattle.syslog_parser.proofs.Words.{too_long, split_is, begins_at, run_short, either_inside, either_passes}
use Rattle.syslog_parser.proofs.data.read_id.Goals as goal

pub returns-then-count-gt32-clause-fault : goal.returns-then-count-gt32-clause-fault
returns-then-count-gt32-clause-fault c =
    too_long is_name_byte c.args.text.now c.name_count-count.result (c.name_count-count.ensures ∙ ap (λ (l : List ℕ). length (take_while is_name_byte l)) c.as_bytes.ensures.value)
    ends_id 32 (length c.args.text.now - 32) name_no_end c.if-count-gt32.true refl

pub returns-clause-ok : goal.returns-clause-ok
returns-clause-ok c =
    let few : c.name_count-count.result ≤ 32 = omega arith in
    let some : 1 ≤ c.name_count-count.result = omega arith in
    let stands = sym c.stands_either.ensures ∙ c.if-not-stands_either.false in
    record {
      is = split_is c.args.text.now c.split.result.0.now c.split.result.1.now c.name_count-count.result c.split.ensures.front c.split.ensures.behind;
      name =
          run_short is_name_byte c.args.text.now c.name_count-count.result (c.name_count-count.ensures ∙ ap (λ (l : List ℕ). length (take_while is_name_byte l)) c.as_bytes.ensures.value)
          c.split.result.0.now 32 c.split.ensures.front some few;
      ends =
          begins_at ends_id c.args.text.now c.split.result.1.now c.name_count-count.result (either_inside c.args.text.now c.name_count-count.result 32 93 stands)
          (either_passes c.args.text.now c.name_count-count.result 32 93 stands) c.split.ensures.behind;
    }
