use Rattle.auditor.proofs.Owning.{own_alone, verdict_by_own}
use Rattle.auditor.proofs.laws.own_lines_are_enough.Goals as goal

pub returns-clause-alone : goal.returns-clause-alone
returns-clause-alone c = own_alone

pub returns-clause-verdict : goal.returns-clause-verdict
returns-clause-verdict c = verdict_by_own
