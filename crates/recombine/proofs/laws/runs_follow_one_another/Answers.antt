use Rattle.recombine.proofs.RunLemmas.{after_append, ended_append}
use Rattle.recombine.proofs.laws.runs_follow_one_another.Goals as goal

pub returns : goal.returns
returns c = record { groups = after_append; sent = ended_append }
