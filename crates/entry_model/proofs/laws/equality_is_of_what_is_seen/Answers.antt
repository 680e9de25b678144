use Rattle.entry_model.proofs.Equality.{eq_Decides}
use Rattle.entry_model.proofs.RecordEquality.{entry_Decides}
use Rattle.entry_model.proofs.laws.equality_is_of_what_is_seen.Goals as goal

pub returns-clause-values : goal.returns-clause-values
returns-clause-values c = eq_Decides

pub returns-clause-entries : goal.returns-clause-entries
returns-clause-entries c = entry_Decides
