use Rattle.standing.proofs.RowLemmas.{taken_lasts, taken_fed, output_goes_on}
use Rattle.standing.proofs.laws.parts_go_on.Goals as goal

pub returns-clause-grown : goal.returns-clause-grown
returns-clause-grown c = λ rules part content more tokens row laws. taken_lasts rules laws part content more tokens row

pub returns-clause-taken : goal.returns-clause-taken
returns-clause-taken c = λ rules part content piece behind tokens row laws. taken_fed rules laws part content piece behind tokens row

pub returns-clause-entries : goal.returns-clause-entries
returns-clause-entries c = λ rules part content tokens more row laws. output_goes_on rules laws part content tokens more row
