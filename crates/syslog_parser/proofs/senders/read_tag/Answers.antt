use Rattle.std.proofs.Common.{◌∙◌, ◌-◌, ◌≤◌, List, ℕ, ap, sym, refl, inl, inr, length, take_while, arith}
use Rattle.syslog_parser.specs.Bytes.{is_tag_byte}
use Rattle.syslog_parser.specs.Inner.Reads.{ends_tag}
use Rattle.syslog_parser.proofs.Over3164.{tag_stops}
use Rattle.syslog_parser.proofs.Words.{split_is, begins_at, run_word, either_inside, either_passes, either_low, neither_ends}
use Rattle.syslog_parser.proofs.senders.read_tag.Goals as goal
use Rattle.syslog_parser.proofs.senders.read_tag.Goals.{then-count-eq0-via-then-count-eq0, then-count-eq0-via-else-count-eq0+then-not-stands_either}

pub returns-then-count-eq0-clause-fault : goal.returns-then-count-eq0-clause-fault
returns-then-count-eq0-clause-fault c =
    tag_stops c.args.text.now c.tag_count-count.result (length c.args.text.now - c.tag_count-count.result)
    (c.tag_count-count.ensures ∙ ap (λ (l : List ℕ). length (take_while is_tag_byte l)) c.as_bytes.ensures.value)
    (elim c.then-count-eq0.branch [
      | then-count-eq0-via-then-count-eq0 w ↦ inl w.if-count-eq0.true
      | then-count-eq0-via-else-count-eq0+then-not-stands_either w ↦ inr (neither_ends c.args.text.now c.tag_count-count.result 58 91 (sym w.stands_either.ensures ∙ w.if-not-stands_either.true))
    ]) refl

pub split-requires-clause-inside : goal.split-requires-clause-inside
split-requires-clause-inside c = either_inside c.args.text.now c.tag_count-count.result 58 91 (sym c.stands_either.ensures ∙ c.if-not-stands_either.false)

pub split-requires-clause-ascii : goal.split-requires-clause-ascii
split-requires-clause-ascii c = either_low c.args.text.now c.tag_count-count.result 58 91 (sym c.stands_either.ensures ∙ c.if-not-stands_either.false) (omega arith) (omega arith)

pub returns-clause-ok : goal.returns-clause-ok
returns-clause-ok c =
    let some : 1 ≤ c.tag_count-count.result = omega arith in
    let stands = sym c.stands_either.ensures ∙ c.if-not-stands_either.false in
    record {
      is = split_is c.args.text.now c.split.result.0.now c.split.result.1.now c.tag_count-count.result c.split.ensures.front c.split.ensures.behind;
      word =
          run_word is_tag_byte c.args.text.now c.tag_count-count.result (c.tag_count-count.ensures ∙ ap (λ (l : List ℕ). length (take_while is_tag_byte l)) c.as_bytes.ensures.value)
          c.split.result.0.now c.split.ensures.front some;
      ends =
          begins_at ends_tag c.args.text.now c.split.result.1.now c.tag_count-count.result (either_inside c.args.text.now c.tag_count-count.result 58 91 stands)
          (either_passes c.args.text.now c.tag_count-count.result 58 91 stands) c.split.ensures.behind;
    }
