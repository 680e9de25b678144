use Rattle.record_log.proofs.LogLaws.{log_cut, log_cut_ends, log_of_slots}
use Rattle.record_log.proofs.laws.what_a_log_stands_on.Goals as goal

pub returns-clause-cut : goal.returns-clause-cut
returns-clause-cut c = log_cut

pub returns-clause-ends : goal.returns-clause-ends
returns-clause-ends c = log_cut_ends

pub returns-clause-slots : goal.returns-clause-slots
returns-clause-slots c = log_of_slots
