use Rattle.container_parser.proofs.OneLine.{no_fault, one_fault}
use Rattle.container_parser.proofs.laws.line_has_one_fault.Goals as goal

pub returns-clause-none : goal.returns-clause-none
returns-clause-none c = no_fault

pub returns-clause-one : goal.returns-clause-one
returns-clause-one c = one_fault
