use Rattle.std.proofs.Common.{ap, sym, ◌∙◌}
use Rattle.std.proofs.lemmas.List.{take_rest}
use Rattle.std.specs.List.{list_any}
use Rattle.text_parsers.specs.FirstRecord.{is_other}
use Rattle.csv.specs.Records.{fields_of}
use Rattle.csv.specs.Reading.{strip_bom}
use Rattle.text_parsers.proofs.ReadRecords.{finds_none, finds_one, finds_more}
use Rattle.text_parsers.proofs.records.split_record.Goals as goal

pub returns-in-None-clause-ok : goal.returns-in-None-clause-ok
returns-in-None-clause-ok c =
    finds_none c.args.delimiter c.args.text.now c.without_mark-bytes.result.now (c.without_mark-bytes.ensures ∙ ap strip_bom c.as_bytes.ensures.value) (fields_of c.first.new.self.row)
    (rw c.in-None.is at c.in_ok-end.ensures)

pub returns-then-is_more-clause-ok : goal.returns-then-is_more-clause-ok
returns-then-is_more-clause-ok c =
    finds_more c.args.delimiter c.args.text.now c.without_mark-bytes.result.now (c.without_mark-bytes.ensures ∙ ap strip_bom c.as_bytes.ensures.value) (fields_of c.first.new.self.row)
    c.in-Some.end (rw c.in-Some.is at c.in_ok-end.ensures)
    (sym (ap (list_any is_other) (take_rest c.without_mark-bytes.result.now c.in-Some.end)) ∙ sym c.is_more.ensures ∙ c.if-is_more.true)

pub returns-clause-ok : goal.returns-clause-ok
returns-clause-ok c =
    finds_one c.args.delimiter c.args.text.now c.without_mark-bytes.result.now (c.without_mark-bytes.ensures ∙ ap strip_bom c.as_bytes.ensures.value) (fields_of c.first.new.self.row)
    c.in-Some.end (rw c.in-Some.is at c.in_ok-end.ensures)
    (sym (ap (list_any is_other) (take_rest c.without_mark-bytes.result.now c.in-Some.end)) ∙ sym c.is_more.ensures ∙ c.if-is_more.false)
