use Rattle.op_kinds.proofs.Applying.{begins_with_kind, keeps_kind}
use Rattle.op_kinds.proofs.laws.states_keep_their_kind.Goals as goal

pub returns-clause-first : goal.returns-clause-first
returns-clause-first c = begins_with_kind

pub returns-clause-after : goal.returns-clause-after
returns-clause-after c = keeps_kind
