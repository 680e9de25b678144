use Rattle.std.proofs.Common.{◌∙◌, arith, sym}
use Rattle.std.proofs.lemmas.List.Sums.{prefix_len_is}
use Rattle.std.specs.Char.{is_ascii_digit}
use Rattle.syslog_parser.proofs.Digits.{room}
use Rattle.syslog_parser.proofs.priority.read_digits.Goals as goal

pub returns-then-not-is_ascii_digit-clause-count : goal.returns-then-not-is_ascii_digit-clause-count
returns-then-not-is_ascii_digit-clause-count c =
    sym (prefix_len_is is_ascii_digit c.args.bytes.now c.loop-count.count 0 (omega arith) c.loop-count.invariant.digits
    (λ _. sym c.is_ascii_digit.ensures.value ∙ c.if-not-is_ascii_digit.true))

pub overflow_mul-value : goal.overflow_mul-value
overflow_mul-value c = omega (arith, room c.loop-count.value c.loop-count.count c.loop-count.invariant.bounded (omega arith))

pub overflow_add-value : goal.overflow_add-value
overflow_add-value c = omega (arith, room c.loop-count.value c.loop-count.count c.loop-count.invariant.bounded (omega arith))

pub returns-clause-count : goal.returns-clause-count
returns-clause-count c =
    sym (prefix_len_is is_ascii_digit c.args.bytes.now _ 0 (omega arith) (λ k below. c.loop-count.invariant.digits k (omega arith)) (λ past. absurd (omega arith)))
