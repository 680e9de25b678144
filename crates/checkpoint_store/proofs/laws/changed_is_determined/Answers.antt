use Rattle.checkpoint_store.proofs.Determined.{changed_alone}
use Rattle.checkpoint_store.proofs.laws.changed_is_determined.Goals as goal

pub returns : goal.returns
returns c = changed_alone
