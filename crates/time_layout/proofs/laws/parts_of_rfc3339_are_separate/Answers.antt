use Rattle.time_layout.proofs.BegunParts.{iso_parts_separate}
use Rattle.time_layout.proofs.laws.parts_of_rfc3339_are_separate.Goals as goal

pub returns : goal.returns
returns c = iso_parts_separate
