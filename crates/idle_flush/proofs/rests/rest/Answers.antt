use Rattle.std.proofs.Common.{arith}
use Rattle.std.proofs.lemmas.Bool.Decides.{nat_tests}
use Rattle.idle_flush.proofs.RestLemmas.{rest_at_max, rest_cut-none, rest_at_end, no_tokens, begins_at_max, begins_at_end}
use Rattle.idle_flush.proofs.rests.rest.Goals as goal

pub returns-then-max-bytes-clause-some : goal.returns-then-max-bytes-clause-some
returns-then-max-bytes-clause-some c = rest_at_max c.args.max c.args.bytes.now c.if-max-bytes.true

pub returns-then-max-bytes-clause-begins : goal.returns-then-max-bytes-clause-begins
returns-then-max-bytes-clause-begins c = begins_at_max c.args.max c.args.bytes.now c.requires c.if-max-bytes.true

pub returns-then-is_empty-clause-none : goal.returns-then-is_empty-clause-none
returns-then-is_empty-clause-none c = rest_cut-none c.args.max c.args.bytes.now (grind (arith, nat_tests, c.if-is_empty.ensures))

pub returns-then-is_empty-clause-ends : goal.returns-then-is_empty-clause-ends
returns-then-is_empty-clause-ends c = no_tokens c.args.max c.args.bytes.now (grind (arith, nat_tests, c.if-is_empty.ensures))

pub returns-clause-some : goal.returns-clause-some
returns-clause-some c =
    rest_at_end c.args.max c.args.bytes.now c.last_text_end.result c.if-max-bytes.false (grind (arith, nat_tests, c.if-is_empty.ensures)) c.last_text_end.ensures.text

pub returns-clause-begins : goal.returns-clause-begins
returns-clause-begins c =
    begins_at_end c.args.max c.args.bytes.now c.last_text_end.result c.requires c.if-max-bytes.false (grind (arith, nat_tests, c.if-is_empty.ensures)) c.last_text_end.ensures.text
