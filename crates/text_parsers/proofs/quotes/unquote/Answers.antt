use Rattle.std.proofs.Common.{◌∙◌, sym}
use Rattle.text_parsers.proofs.Quoting.{quoted_start}
use Rattle.text_parsers.proofs.quotes.unquote.Goals as goal

pub range-requires-clause-start_boundary : goal.range-requires-clause-start_boundary
range-requires-clause-start_boundary c = λ _.
    quoted_start c.args.text.now c.as_bytes-bytes.result.now c.as_bytes-bytes.ensures.value c.utf8.text c.if-len-gt1.true (sym c.is_quote.ensures ∙ c.if-is_quote.true)
