use Rattle.recombine.proofs.RunLemmas.{restored}
use Rattle.recombine.proofs.SpellingLemmas.{groups_told}
use Rattle.recombine.proofs.laws.groups_are_told.Goals as goal

pub returns : goal.returns
returns c = record { told = groups_told; restored = restored }
