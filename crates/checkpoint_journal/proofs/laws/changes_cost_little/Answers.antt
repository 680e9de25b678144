use Rattle.checkpoint_store.proofs.CostLemmas.{change_cost}
use Rattle.checkpoint_journal.proofs.laws.changes_cost_little.Goals as goal

pub returns : goal.returns
returns c = change_cost
