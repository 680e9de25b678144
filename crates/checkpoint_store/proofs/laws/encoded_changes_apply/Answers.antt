use Rattle.checkpoint_store.proofs.Told.{applied_again}
use Rattle.checkpoint_store.proofs.laws.encoded_changes_apply.Goals as goal

pub returns : goal.returns
returns c = applied_again
