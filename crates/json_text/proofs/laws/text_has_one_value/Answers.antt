use Rattle.json_text.proofs.Faults.{one_value}
use Rattle.json_text.proofs.laws.text_has_one_value.Goals as goal

pub returns : goal.returns
returns c = one_value
