use Rattle.entry_model.specs.Datum.{datum}
use Rattle.json_text.proofs.Values.{whole_fault, whole_value, trailing}
use Rattle.json_text.proofs.reader.read.Goals as goal

pub returns-in-Err-clause-fault : goal.returns-in-Err-clause-fault
returns-in-Err-clause-fault c = whole_fault c.args.text.now c.in-Err.fault c.in-Err.ensures

pub returns-then-end-text-clause-fault : goal.returns-then-end-text-clause-fault
returns-then-end-text-clause-fault c =
    trailing c.args.text.now c.in-Ok.read.1 c.skip_blanks-end.result (datum c.in-Ok.read.0) c.in-Ok.ensures c.skip_blanks-end.ensures c.if-end-text.true

pub returns-clause-ok : goal.returns-clause-ok
returns-clause-ok c = whole_value c.args.text.now c.in-Ok.read.1 c.skip_blanks-end.result (datum c.in-Ok.read.0) c.in-Ok.ensures c.skip_blanks-end.ensures c.if-end-text.false
