use Rattle.checkpoint_store.proofs.Told.{changes_told}
use Rattle.checkpoint_store.proofs.laws.changes_are_told.Goals as goal

pub returns : goal.returns
returns c = changes_told
