use Rattle.text_parsers.proofs.ReadRecords.{opens_quote, opens_field}
use Rattle.text_parsers.proofs.records.between.Goals as goal

pub returns-then-byte-eq34 : goal.returns-then-byte-eq34
returns-then-byte-eq34 c = opens_quote c.args.delimiter c.args.byte c.if-byte-eq34.true

pub returns : goal.returns
returns c = opens_field c.args.delimiter c.args.byte c.if-byte-eq34.false c.in_field.result c.in_field.ensures
