use Rattle.recombine.proofs.MeaningLemmas.{run_is, sent_along}
use Rattle.recombine.proofs.RunLemmas.{ended_from_none}
use Rattle.recombine.proofs.laws.steps_are_what_positions_say.Goals as goal

pub returns : goal.returns
returns c = record { groups = run_is; sent = sent_along; all = ended_from_none }
