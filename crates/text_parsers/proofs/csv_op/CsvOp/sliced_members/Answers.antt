use Rattle.std.proofs.Common.{◌∙◌, sym}
use Rattle.entry_model.specs.Seen.{seen}
use Rattle.text_parsers.specs.CsvRecords.{no_memory}
use Rattle.text_parsers.specs.declared.records.Split.TheVariants.{One}
use Rattle.text_parsers.proofs.Counted.{record_there, told_count, read_one}
use Rattle.text_parsers.proofs.csv_op.CsvOp.sliced_members.Goals as goal

pub returns-then-got-want-clause-fault : goal.returns-then-got-want-clause-fault
returns-then-got-want-clause-fault c =
    let names = c.self.inside.names in
    let d = c.self.inside.delimiter in
    let front = c.args.text.now in
    let here = record_there c.args.self.now names d c.self.view_is front c.len-want.result c.len-want.ensures c.args.got c.requires in
    told_count c.args.self.now names d c.self.view_is front c.len-want.result c.len-want.ensures here.fields c.args.got here.counted
    One here.only (λ e. cc e) c.if-got-want.true

pub name_slices-requires-clause-fields : goal.name_slices-requires-clause-fields
name_slices-requires-clause-fields c =
    let here = record_there c.args.self.now c.self.inside.names c.self.inside.delimiter c.self.view_is c.args.text.now c.len-want.result c.len-want.ensures c.args.got c.requires in
    (here.fields, here.are)

pub returns-in-Ok-clause-ok : goal.returns-in-Ok-clause-ok
returns-in-Ok-clause-ok c =
    let names = c.self.inside.names in
    let d = c.self.inside.delimiter in
    let front = c.args.text.now in
    let here = record_there c.args.self.now names d c.self.view_is front c.len-want.result c.len-want.ensures c.args.got c.requires in
    read_one c.args.self.now names d c.self.view_is front c.len-want.result c.len-want.ensures here.fields c.args.got here.counted
    One here.only (λ e. cc e) (λ e. cc e) c.if-got-want.false
    (seen c.in-Ok.members.entries) (c.in-Ok.ensures here.fields here.are (sym here.counted ∙ c.if-got-want.false ∙ c.len-want.ensures))

pub returns-in-Err-clause-fault : goal.returns-in-Err-clause-fault
returns-in-Err-clause-fault c = no_memory
