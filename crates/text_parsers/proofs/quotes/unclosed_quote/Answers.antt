use Rattle.text_parsers.proofs.Quoting.{no_quote, quote_within, none_before}
use Rattle.text_parsers.proofs.quotes.unclosed_quote.Goals as goal

pub unclosed_from-requires-clause-within : goal.unclosed_from-requires-clause-within
unclosed_from-requires-clause-within c = quote_within c.args.text.now c.as_bytes.result.now c.in-Some.first c.as_bytes.ensures.value c.in-Some.ensures

pub unclosed_from-requires-clause-outside : goal.unclosed_from-requires-clause-outside
unclosed_from-requires-clause-outside c = none_before c.args.text.now c.as_bytes.result.now c.in-Some.first c.as_bytes.ensures.value c.in-Some.ensures

pub returns-in-None-clause-closed : goal.returns-in-None-clause-closed
returns-in-None-clause-closed c = no_quote c.args.text.now c.as_bytes.result.now c.as_bytes.ensures.value c.in-None.ensures
