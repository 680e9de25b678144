use Rattle.std.proofs.Common.{◌∙◌, sym}
use Rattle.csv.specs.Records.{fields_of}
use Rattle.entry_model.specs.Seen.{seen}
use Rattle.text_parsers.specs.CsvRecords.{no_memory}
use Rattle.text_parsers.proofs.Counted.{told_none, told_count, told_more, read_one}
use Rattle.text_parsers.proofs.csv_op.CsvOp.record_members.Goals as goal

pub returns-in-Nothing-clause-fault : goal.returns-in-Nothing-clause-fault
returns-in-Nothing-clause-fault c =
    told_none c.args.self.now c.self.inside.names c.self.inside.delimiter c.self.view_is c.args.text.now c.len-want.result c.len-want.ensures
    c.in-Ok.split (fields_of c.split_record.new.row) c.in-Ok.ensures.ok c.in-Nothing.is

pub returns-then-got-want-clause-fault : goal.returns-then-got-want-clause-fault
returns-then-got-want-clause-fault c =
    told_count c.args.self.now c.self.inside.names c.self.inside.delimiter c.self.view_is c.args.text.now c.len-want.result c.len-want.ensures
    (fields_of c.split_record.new.row) c.len-got.result c.len-got.ensures c.in-Ok.split c.in-Ok.ensures.ok c.in_default-split.not-Nothing c.if-got-want.true

pub returns-in-More-clause-fault : goal.returns-in-More-clause-fault
returns-in-More-clause-fault c =
    told_more c.args.self.now c.self.inside.names c.self.inside.delimiter c.self.view_is c.args.text.now c.len-want.result c.len-want.ensures
    (fields_of c.split_record.new.row) c.len-got.result c.len-got.ensures c.in-Ok.split c.in-Ok.ensures.ok c.in-More.is c.if-got-want.false

pub returns-in-Ok-name_fields-clause-ok : goal.returns-in-Ok-name_fields-clause-ok
returns-in-Ok-name_fields-clause-ok c =
    read_one c.args.self.now c.self.inside.names c.self.inside.delimiter c.self.view_is c.args.text.now c.len-want.result c.len-want.ensures
    (fields_of c.split_record.new.row) c.len-got.result c.len-got.ensures c.in-Ok.split c.in-Ok.ensures.ok c.in_default-split.not-Nothing c.in_default-split-2.not-More c.if-got-want.false
    (seen c.in-Ok-name_fields.members.entries)
    c.in-Ok-name_fields.ensures

pub returns-in_default-clause-fault : goal.returns-in_default-clause-fault
returns-in_default-clause-fault c = no_memory

pub returns : goal.returns
returns c = record { ok = tt; fault = no_memory }

pub name_fields-requires : goal.name_fields-requires
name_fields-requires c = sym c.len-got.ensures ∙ c.if-got-want.false ∙ c.len-want.ensures
