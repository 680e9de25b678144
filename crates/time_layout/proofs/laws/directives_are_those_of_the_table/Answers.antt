use Rattle.time_layout.proofs.Letters.{letters_are_listed}
use Rattle.time_layout.proofs.laws.directives_are_those_of_the_table.Goals as goal

pub returns : goal.returns
returns c = letters_are_listed
