use Rattle.std.proofs.Common.{◌+◌, arith}
use Rattle.std.proofs.lemmas.List.{take_rest}
use Rattle.kept_lines.proofs.Times.{time_digits, quote_follows, opening_there}
use Rattle.kept_lines.proofs.observed.told_time.Goals as goal

pub returns-in_default : goal.returns-in_default
returns-in_default c = λ time small h. absurd (opening_there c.args.line.now time (rw c.as_slice-opening.ensures at c.in_default.ensures) h)

pub returns-in_default-memchr : goal.returns-in_default-memchr
returns-in_default-memchr c = λ time small h.
    absurd (quote_follows c.args.line.now _ time c.in-Some.at (rw c.as_slice-opening.ensures at c.in-Some.ensures) (take_rest c.args.line.now (c.in-Some.at + 25)) c.in_default-memchr.ensures h)

pub returns : goal.returns
returns c = λ time small h.
    c.parsed.ensures.number time small
    (time_digits c.args.line.now _ _ time c.in-Some.at c.in-Some-memchr.end (rw c.as_slice-opening.ensures at c.in-Some.ensures) (take_rest c.args.line.now (c.in-Some.at + 25)) c.in-Some-memchr.ensures
    (grind arith) h)
