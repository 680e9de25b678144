use Rattle.time_severity.proofs.Spellings.{spelled, spells}
use Rattle.time_severity.proofs.laws.spellings_are_decimal.Goals as goal

pub returns : goal.returns
returns c = λ bytes number. (spelled bytes number, λ h. spells bytes number h.0 h.1)
