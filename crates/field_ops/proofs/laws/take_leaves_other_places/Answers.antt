use Rattle.field_ops.proofs.Taken.{leaves_others}
use Rattle.field_ops.proofs.laws.take_leaves_other_places.Goals as goal

pub returns : goal.returns
returns c = leaves_others
