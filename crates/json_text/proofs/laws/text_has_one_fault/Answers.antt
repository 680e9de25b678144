use Rattle.json_text.proofs.Faults.{one_fault}
use Rattle.json_text.proofs.laws.text_has_one_fault.Goals as goal

pub returns : goal.returns
returns c = one_fault
