use Rattle.checkpoint_store.proofs.ShortLemmas.{checkpoint_short, change_short}
use Rattle.checkpoint_journal.proofs.laws.spellings_are_short.Goals as goal

pub returns-clause-checkpoint : goal.returns-clause-checkpoint
returns-clause-checkpoint c = checkpoint_short

pub returns-clause-change : goal.returns-clause-change
returns-clause-change c = change_short
