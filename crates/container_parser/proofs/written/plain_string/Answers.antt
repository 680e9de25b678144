use Rattle.std.proofs.Common.{[], refl}
use Rattle.container_parser.proofs.AsWritten.{run_ends, run_on, quote_on}
use Rattle.container_parser.proofs.written.plain_string.Goals as goal

pub range_from-requires : goal.range_from-requires
range_from-requires c = λ _. run_ends c.args.text.now c.plain_length-end.result c.plain_length-end.ensures

pub returns : goal.returns
returns c =
    let line = c.args.text.now in let run = c.range.result.now in let special = c.range_from.result.now in
    quote_on line special run c.in_ok-behind.behind.now
    (run_on line line special [] run run c.plain_length-end.result (λ more behind is. is) c.plain_length-end.ensures c.range.ensures.value c.range_from.ensures.value refl)
    c.in_ok-behind.ensures
