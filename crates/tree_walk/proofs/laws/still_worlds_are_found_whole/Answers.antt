use Rattle.tree_walk.proofs.Still.{found_whole}
use Rattle.tree_walk.proofs.laws.still_worlds_are_found_whole.Goals as goal

pub returns : goal.returns
returns c = λ include exclude paths unnamed old new included finds keeps path. found_whole include exclude paths unnamed old new included finds keeps path
