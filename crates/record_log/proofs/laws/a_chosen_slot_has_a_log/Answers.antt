use Rattle.record_log.proofs.LogLaws.{some_log}
use Rattle.record_log.proofs.laws.a_chosen_slot_has_a_log.Goals as goal

pub returns : goal.returns
returns c = some_log
