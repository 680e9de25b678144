use Rattle.record_log.proofs.LogLaws.{base_long, log_long, log_room}
use Rattle.record_log.proofs.laws.a_log_is_as_long_as_what_it_holds.Goals as goal

pub returns-clause-base : goal.returns-clause-base
returns-clause-base c = base_long

pub returns-clause-size : goal.returns-clause-size
returns-clause-size c = log_long

pub returns-clause-within : goal.returns-clause-within
returns-clause-within c image log base records has = (log_room image log base records has).within

pub returns-clause-in_range : goal.returns-clause-in_range
returns-clause-in_range c image log base records has = (log_room image log base records has).in_range
