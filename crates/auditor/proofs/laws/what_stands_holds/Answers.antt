use Rattle.auditor.proofs.Keeping.{stands_holds}
use Rattle.auditor.proofs.laws.what_stands_holds.Goals as goal

pub returns : goal.returns
returns c = stands_holds
