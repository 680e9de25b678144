use Rattle.outside.proofs.Tearing.{keeps_front_idle, keeps_front_torn, keeps_front_then, keeps_front_take}
use Rattle.outside.proofs.laws.writes_keep_what_is_before.Goals as goal

pub returns-clause-none : goal.returns-clause-none
returns-clause-none c = keeps_front_idle

pub returns-clause-torn : goal.returns-clause-torn
returns-clause-torn c = keeps_front_torn

pub returns-clause-both : goal.returns-clause-both
returns-clause-both c = keeps_front_then

pub returns-clause-prefix : goal.returns-clause-prefix
returns-clause-prefix c = keeps_front_take
