use Rattle.field_ops.proofs.Listed.{listed_stays}
use Rattle.field_ops.proofs.laws.retain_keeps_listed_fields.Goals as goal

pub returns : goal.returns
returns c = listed_stays
