use Rattle.outside.proofs.Seeing.{looks_stay, misses_stay, unlisted_stay}
use Rattle.outside.proofs.laws.steps_leave_own_events.Goals as goal

pub returns-clause-looks : goal.returns-clause-looks
returns-clause-looks c = looks_stay

pub returns-clause-misses : goal.returns-clause-misses
returns-clause-misses c = misses_stay

pub returns-clause-unlisted : goal.returns-clause-unlisted
returns-clause-unlisted c = unlisted_stay
