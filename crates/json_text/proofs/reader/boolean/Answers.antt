use Rattle.std.proofs.Common.{sym}
use Rattle.entry_model.proofs.Data.{datum_bool}
use Rattle.entry_model.specs.declared.value.Value.TheVariants as value
use Rattle.entry_model.specs.Datum.{boolean, datum}
use Rattle.json_text.specs.Reads.{word_from}
use Rattle.json_text.proofs.Values.{behind_as}
use Rattle.json_text.proofs.reader.boolean.Goals as goal

pub returns-in-Ok : goal.returns-in-Ok
returns-in-Ok c =
    behind_as c.args.text.now c.args.at c.in-Ok.next (word_from c.args.rest.now (boolean c.args.flag)) (boolean c.args.flag) (datum (value.Bool c.args.flag)) (sym (datum_bool c.args.flag))
    (c.in-Ok.ensures.ok (boolean c.args.flag))

pub returns-in-Err : goal.returns-in-Err
returns-in-Err c = c.in-Err.ensures.fault (boolean c.args.flag)
