use Rattle.time_severity.proofs.Spellings.{none_spelled}
use Rattle.time_severity.proofs.spelled.number_spelled.Goals as goal

pub returns-in-Err : goal.returns-in-Err
returns-in-Err c = none_spelled _ c.args.text.now c.in-Err.field-0 c.in-Err.ensures.value.0
