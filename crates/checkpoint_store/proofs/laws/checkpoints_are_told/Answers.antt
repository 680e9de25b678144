use Rattle.checkpoint_store.proofs.Told.{checkpoints_told}
use Rattle.checkpoint_store.proofs.laws.checkpoints_are_told.Goals as goal

pub returns : goal.returns
returns c = checkpoints_told
