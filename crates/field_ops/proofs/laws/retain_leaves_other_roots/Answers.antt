use Rattle.field_ops.proofs.Retained.{other_roots_stay, rest_is_left_out}
use Rattle.field_ops.proofs.laws.retain_leaves_other_roots.Goals as goal

pub returns-clause-other_roots : goal.returns-clause-other_roots
returns-clause-other_roots c = other_roots_stay

pub returns-clause-left_out : goal.returns-clause-left_out
returns-clause-left_out c = rest_is_left_out
