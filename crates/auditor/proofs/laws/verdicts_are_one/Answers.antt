use Rattle.auditor.proofs.Judging.{one_verdict}
use Rattle.auditor.proofs.laws.verdicts_are_one.Goals as goal

pub returns : goal.returns
returns c = one_verdict
