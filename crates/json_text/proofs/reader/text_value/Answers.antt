use Rattle.std.proofs.Common.{◌∙◌, ap, sym, drop}
use Rattle.entry_model.proofs.Data.{datum_text}
use Rattle.entry_model.specs.Datum.{Datum}
use Rattle.json_text.specs.Machine.{outcome, no_content, a_value}
use Rattle.json_text.specs.Reads.{Around, AroundText, behind, text_from}
use Rattle.json_text.proofs.Values.{refuses_through}
use Rattle.json_text.proofs.reader.text_value.Goals as goal

pub returns-in-Ok : goal.returns-in-Ok
returns-in-Ok c =
    let x = c.in-Ok.ensures in
    (x.0, x.1, λ around. x.2 (a_value, around) ∙ ap (λ (d : Datum). outcome (behind d around) (drop c.in-Ok.next c.args.text.now) c.in-Ok.next) (sym (datum_text c.in-Ok.content)))

pub returns-in-Err : goal.returns-in-Err
returns-in-Err c =
    refuses_through {A = AroundText} {B = Around} c.args.text.now c.args.at (λ around. (a_value, around)) (text_from no_content) c.in-Err.fault c.in-Err.ensures
