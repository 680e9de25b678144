use Rattle.slot_store.proofs.Choices.{chosen_file}
use Rattle.slot_store.proofs.laws.chosen_slot_is_in_its_file.Goals as goal

pub returns : goal.returns
returns c = chosen_file
