use Rattle.text_parsers.proofs.ReadRecords.{adds_quote, goes_behind_quote}
use Rattle.text_parsers.proofs.records.behind_quote.Goals as goal

pub returns-then-byte-eq34 : goal.returns-then-byte-eq34
returns-then-byte-eq34 c = adds_quote c.args.delimiter c.args.byte c.if-byte-eq34.true

pub returns : goal.returns
returns c = goes_behind_quote c.args.delimiter c.args.byte c.if-byte-eq34.false c.in_field.result c.in_field.ensures
