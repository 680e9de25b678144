use Rattle.pipeline.proofs.Building.{one_network}
use Rattle.pipeline.proofs.laws.operators_make_one_network.Goals as goal

pub returns : goal.returns
returns c = one_network
