use Rattle.field_paths.proofs.EitherOrder.{either_order}
use Rattle.field_paths.proofs.laws.set_and_take_in_either_order.Goals as goal

pub returns : goal.returns
returns c = either_order
