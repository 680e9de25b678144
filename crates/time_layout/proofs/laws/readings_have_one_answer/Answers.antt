use Rattle.time_layout.proofs.Instants.{one_time}
use Rattle.time_layout.proofs.laws.readings_have_one_answer.Goals as goal

pub returns : goal.returns
returns c = one_time
