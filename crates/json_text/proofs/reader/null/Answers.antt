use Rattle.std.proofs.Common.{sym, codes}
use Rattle.entry_model.specs.declared.value.Value.TheVariants as value
use Rattle.entry_model.specs.Datum.{null, datum}
use Rattle.json_text.specs.Reads.{word_from}
use Rattle.json_text.proofs.Values.{behind_as, datum_null}
use Rattle.json_text.proofs.reader.null.Goals as goal

pub returns-in-Ok : goal.returns-in-Ok
returns-in-Ok c = behind_as c.args.text.now c.args.at c.in-Ok.next (word_from (codes "ull") null) null (datum value.Null) (sym datum_null) (c.in-Ok.ensures.ok null)

pub returns-in-Err : goal.returns-in-Err
returns-in-Err c = c.in-Err.ensures.fault null
