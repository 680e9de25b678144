use Rattle.standing.proofs.ShrinkLemmas.{sums_tell_none_shrunk}
use Rattle.standing.proofs.laws.no_file_is_shrunk.Goals as goal

pub returns : goal.returns
returns c = λ eras first stamp stretch looks before after added pass output sums laws asked apart stands times are.
    sums_tell_none_shrunk eras laws first stamp asked stretch looks before after added pass output sums apart stands times are
