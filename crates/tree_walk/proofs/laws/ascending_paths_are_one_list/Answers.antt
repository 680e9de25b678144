use Rattle.tree_walk.proofs.Still.{same_list}
use Rattle.tree_walk.proofs.laws.ascending_paths_are_one_list.Goals as goal

pub returns : goal.returns
returns c = same_list
