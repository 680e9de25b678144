use Rattle.std.proofs.Common.{◌∙◌, ◌++◌, ℕ, List, ap, rules}
use Rattle.container_parser.proofs.AsWritten.{run_ends, run_on, escape_on, quote_on}
use Rattle.container_parser.proofs.written.unescape.Goals as goal

pub range-requires-clause-end_boundary : goal.range-requires-clause-end_boundary
range-requires-clause-end_boundary c = run_ends c.loop-special.rest.now c.plain_length-end.result c.plain_length-end.ensures

pub range_from-special-requires : goal.range_from-special-requires
range_from-special-requires c = λ _. run_ends c.loop-special.rest.now c.plain_length-end.result c.plain_length-end.ensures

pub returns-in-Some : goal.returns-in-Some
returns-in-Some c =
    quote_on c.args.text.now c.range_from-special.result.now c.try_push_str.new.self.bytes c.in-Some.behind.now
    (run_on c.args.text.now c.loop-special.rest.now c.range_from-special.result.now c.loop-special.content.bytes c.range.result.now c.try_push_str.new.self.bytes c.plain_length-end.result
    c.loop-special.invariant.spells c.plain_length-end.ensures c.range.ensures.value c.range_from-special.ensures.value c.in-Ok.ensures.ok)
    c.in-Some.ensures

pub loop-special-preserved : goal.loop-special-preserved
loop-special-preserved c = record {
  utf8 = search rules;
  spells =
      escape_on c.args.text.now c.range_from-special.result.now c.try_push_str.new.self.bytes c.try_push.new.self.bytes c.in_ok-byte.behind.now c.in_ok-byte.byte
      (run_on c.args.text.now c.loop-special.rest.now c.range_from-special.result.now c.loop-special.content.bytes c.range.result.now c.try_push_str.new.self.bytes c.plain_length-end.result
      c.loop-special.invariant.spells c.plain_length-end.ensures c.range.ensures.value c.range_from-special.ensures.value c.in-Ok.ensures.ok)
      c.in_ok-byte.ensures (c.in-Ok-try_push.ensures.ok ∙ ap (λ (t : List ℕ). c.try_push_str.new.self.bytes ++ t) (c.in-Ok-try_push.ensures.ascii c.in_ok-byte.ensures.ascii));
}
