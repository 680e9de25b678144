use Rattle.checkpoint_store.proofs.Changing.{changed_exact}
use Rattle.checkpoint_store.proofs.laws.changes_are_exact.Goals as goal

pub returns : goal.returns
returns c = changed_exact
