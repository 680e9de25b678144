use Rattle.time_layout.proofs.DeadParts.{fault_stops}
use Rattle.time_layout.proofs.laws.refused_texts_stop_there.Goals as goal

pub returns : goal.returns
returns c = fault_stops
