use Rattle.checkpoint_store.proofs.Changing.{changed_lawful}
use Rattle.checkpoint_store.proofs.laws.changes_keep_the_rules.Goals as goal

pub returns : goal.returns
returns c = changed_lawful
