use Rattle.standing.proofs.NameLemmas.{names_stay}
use Rattle.standing.proofs.laws.names_are_kept.Goals as goal

pub returns : goal.returns
returns c = names_stay
