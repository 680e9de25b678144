use Rattle.file_pass.proofs.Flagging.{begins_unset, flag_tells_difference, flag_tells_growth}
use Rattle.file_pass.proofs.laws.flags_tell_what_changed.Goals as goal

pub returns-clause-begin : goal.returns-clause-begin
returns-clause-begin c = begins_unset

pub returns-clause-difference : goal.returns-clause-difference
returns-clause-difference c = flag_tells_difference

pub returns-clause-growth : goal.returns-clause-growth
returns-clause-growth c = flag_tells_growth
