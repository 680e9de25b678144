use Rattle.std.proofs.Common.{◌∙◌, sym}
use Rattle.text_parsers.proofs.ReadRecords.{ends_field, ends_record, adds}
use Rattle.text_parsers.proofs.records.in_field.Goals as goal

pub returns-then-byte-delimiter : goal.returns-then-byte-delimiter
returns-then-byte-delimiter c = ends_field c.args.delimiter c.args.byte c.if-byte-delimiter.true

pub returns-then-is_line_end : goal.returns-then-is_line_end
returns-then-is_line_end c = ends_record c.args.delimiter c.args.byte c.if-byte-delimiter.false (sym c.is_line_end.ensures ∙ c.if-is_line_end.true)

pub returns : goal.returns
returns c = adds c.args.delimiter c.args.byte c.if-byte-delimiter.false (sym c.is_line_end.ensures ∙ c.if-is_line_end.false)
