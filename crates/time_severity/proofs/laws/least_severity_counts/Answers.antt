use Rattle.time_severity.proofs.LeastIs.{least_is, none_matches}
use Rattle.time_severity.proofs.laws.least_severity_counts.Goals as goal

pub returns : goal.returns
returns c = record { some = least_is; none = none_matches }
