use Rattle.idle_flush.proofs.RestLemmas.{uses_all}
use Rattle.idle_flush.proofs.laws.rests_use_all.Goals as goal

pub returns : goal.returns
returns c = uses_all
