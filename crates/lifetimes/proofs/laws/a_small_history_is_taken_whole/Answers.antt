use Rattle.lifetimes.proofs.OwnLemmas.{undisturbed_by}
use Rattle.lifetimes.proofs.SmallLemmas.{small_whole}
use Rattle.lifetimes.proofs.laws.a_small_history_is_taken_whole.Goals as goal

pub returns : goal.returns
returns c = λ eras first stamp stretch looks before after added pass sums output laws asked none few apart lawful goes stands times are small.
    small_whole eras laws first stamp asked stretch looks before after added pass sums output none few apart lawful (undisturbed_by stretch.old stretch.new goes) stands times are small
