use Rattle.op_kinds.proofs.Compiled.{one_operator}
use Rattle.op_kinds.proofs.laws.settings_make_one_operator.Goals as goal

pub returns : goal.returns
returns c = one_operator
