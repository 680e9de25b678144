use Rattle.time_layout.proofs.BegunParts.{begins_up_to_fault}
use Rattle.time_layout.proofs.laws.bytes_before_a_fault_begin_a_text.Goals as goal

pub returns : goal.returns
returns c = begins_up_to_fault
