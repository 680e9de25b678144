use Rattle.time_severity.proofs.Told.{tells, told_so}
use Rattle.time_severity.proofs.laws.times_are_told.Goals as goal

pub returns : goal.returns
returns c = λ kind value instant. (tells kind value instant, told_so kind value instant)
