use Rattle.std.proofs.Common.{◌∙◌, sym}
use Rattle.std.proofs.lemmas.Str.{utf8_lossy-IsUtf8}
use Rattle.text_parsers.proofs.csv_op.text_of.Goals as goal

pub returns-in_ok-from_str-in-Ok : goal.returns-in_ok-from_str-in-Ok
returns-in_ok-from_str-in-Ok c = c.in_ok-from_str-in-Ok.ensures ∙ c.in-Ok.ensures.cases.0 ∙ sym (utf8_lossy-IsUtf8 c.args.field.now c.in-Ok.ensures.cases.1)
