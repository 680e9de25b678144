use Rattle.poll_core.proofs.ImageLemmas.{one_found, one_sequence}
use Rattle.poll_core.proofs.laws.an_image_has_one_thing.Goals as goal

pub returns-clause-found : goal.returns-clause-found
returns-clause-found c = one_found

pub returns-clause-sequence : goal.returns-clause-sequence
returns-clause-sequence c = one_sequence
