use Rattle.standing.proofs.CompleteLemmas.{complete_pass}
use Rattle.standing.proofs.laws.a_complete_pass_reaches_all.Goals as goal

pub returns : goal.returns
returns c = λ eras first stamp stretch looks before after added pass output sums path file laws asked apart lawful keeps stands times are none included reachable named.
    complete_pass eras laws first stamp asked stretch looks before after added pass output sums path file apart lawful keeps stands times are none included reachable named
