use Rattle.standing.proofs.OwnerLemmas.{owners_differ, one_owner}
use Rattle.standing.proofs.laws.rows_are_of_different_files.Goals as goal

pub returns-clause-two : goal.returns-clause-two
returns-clause-two c = owners_differ

pub returns-clause-one : goal.returns-clause-one
returns-clause-one c = one_owner
