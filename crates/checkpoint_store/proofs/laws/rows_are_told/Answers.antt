use Rattle.checkpoint_store.proofs.Told.{rows_told}
use Rattle.checkpoint_store.proofs.laws.rows_are_told.Goals as goal

pub returns : goal.returns
returns c = rows_told
