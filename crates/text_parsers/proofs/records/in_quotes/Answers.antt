use Rattle.text_parsers.proofs.ReadRecords.{closes_quote, adds_quoted}
use Rattle.text_parsers.proofs.records.in_quotes.Goals as goal

pub returns-then-byte-eq34 : goal.returns-then-byte-eq34
returns-then-byte-eq34 c = λ delimiter. closes_quote delimiter c.args.byte c.if-byte-eq34.true

pub returns : goal.returns
returns c = λ delimiter. adds_quoted delimiter c.args.byte c.if-byte-eq34.false
