use Rattle.checkpoint_store.proofs.Older.{newest_lawful}
use Rattle.checkpoint_store.proofs.laws.older_checkpoints_are_newest.Goals as goal

pub returns : goal.returns
returns c = newest_lawful
