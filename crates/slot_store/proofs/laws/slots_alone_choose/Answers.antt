use Rattle.slot_store.proofs.Choices.{same_choice, same_payload}
use Rattle.slot_store.proofs.laws.slots_alone_choose.Goals as goal

pub returns-clause-slot : goal.returns-clause-slot
returns-clause-slot c = same_choice

pub returns-clause-payload : goal.returns-clause-payload
returns-clause-payload c = same_payload
