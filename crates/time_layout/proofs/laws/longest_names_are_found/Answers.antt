use Rattle.time_layout.proofs.GoTexts.{longest_is}
use Rattle.time_layout.proofs.laws.longest_names_are_found.Goals as goal

pub returns : goal.returns
returns c = longest_is
