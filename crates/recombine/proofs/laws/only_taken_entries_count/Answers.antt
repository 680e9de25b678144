use Rattle.recombine.proofs.RunLemmas.{taken_groups, taken_sent}
use Rattle.recombine.proofs.laws.only_taken_entries_count.Goals as goal

pub returns : goal.returns
returns c = record { groups = taken_groups; sent = taken_sent }
