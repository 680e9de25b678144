use Rattle.expr_lang.proofs.OneFault.{one_fault}
use Rattle.expr_lang.proofs.laws.text_has_one_fault.Goals as goal

pub returns : goal.returns
returns c = one_fault
