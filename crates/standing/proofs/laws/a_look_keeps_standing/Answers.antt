use Rattle.standing.proofs.PassLemmas.{look_output}
use Rattle.standing.proofs.laws.a_look_keeps_standing.Goals as goal

pub returns : goal.returns
returns c = λ eras first stamp here history rows next_id output laws asked comes apart stands times.
    look_output eras laws first stamp asked here history rows next_id output comes apart stands times
