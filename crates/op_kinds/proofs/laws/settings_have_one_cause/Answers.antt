use Rattle.op_kinds.proofs.Compiled.{compiled_has_no_cause}
use Rattle.op_kinds.proofs.Readings.{one_cause}
use Rattle.op_kinds.proofs.laws.settings_have_one_cause.Goals as goal

pub returns-clause-one : goal.returns-clause-one
returns-clause-one c = one_cause

pub returns-clause-none : goal.returns-clause-none
returns-clause-none c = compiled_has_no_cause
