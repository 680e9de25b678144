use Rattle.standing.proofs.RefusalLemmas.{line_of, no_line_twice, no_other_file}
use Rattle.standing.proofs.refusals.each_line_is_of_its_file.Goals as goal

pub returns-clause-is : goal.returns-clause-is
returns-clause-is c = line_of

pub returns-clause-no_line_twice : goal.returns-clause-no_line_twice
returns-clause-no_line_twice c = no_line_twice

pub returns-clause-no_line_of_another_file : goal.returns-clause-no_line_of_another_file
returns-clause-no_line_of_another_file c = no_other_file
