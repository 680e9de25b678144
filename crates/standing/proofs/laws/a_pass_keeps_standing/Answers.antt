use Rattle.standing.proofs.PassLemmas.{pass_stands, pass_keeps_standing}
use Rattle.standing.proofs.laws.a_pass_keeps_standing.Goals as goal

pub returns-clause-image : goal.returns-clause-image
returns-clause-image c = λ eras first stamp stretch looks there after added file file_after laws asked pass longer apart standing.
    pass_keeps_standing eras laws first stamp asked stretch looks there after added file file_after pass longer apart standing

pub returns-clause-rows : goal.returns-clause-rows
returns-clause-rows c = λ eras first stamp stretch looks before after added output laws asked pass apart stands times.
    pass_stands eras laws first stamp asked stretch looks before after added pass output apart stands times
