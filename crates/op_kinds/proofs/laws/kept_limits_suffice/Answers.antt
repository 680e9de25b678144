use Rattle.op_kinds.proofs.Compilable.{compilable}
use Rattle.op_kinds.proofs.laws.kept_limits_suffice.Goals as goal

pub returns : goal.returns
returns c = compilable
