use Rattle.field_paths.proofs.Above.{above_replaces}
use Rattle.field_paths.proofs.laws.set_above_replaces.Goals as goal

pub returns : goal.returns
returns c = above_replaces
