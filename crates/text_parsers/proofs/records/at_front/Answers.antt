use Rattle.std.proofs.Common.{◌∙◌, sym}
use Rattle.text_parsers.proofs.ReadRecords.{passes_line_end, begins_record}
use Rattle.text_parsers.proofs.records.at_front.Goals as goal

pub returns-then-is_line_end : goal.returns-then-is_line_end
returns-then-is_line_end c = passes_line_end c.args.delimiter c.args.byte (sym c.is_line_end.ensures ∙ c.if-is_line_end.true)

pub returns : goal.returns
returns c = begins_record c.args.delimiter c.args.byte (sym c.is_line_end.ensures ∙ c.if-is_line_end.false) c.between.result c.between.ensures
