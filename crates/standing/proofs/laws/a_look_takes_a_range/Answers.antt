use Rattle.standing.proofs.FlushLemmas.{takes_range, takes_all, takes_piece}
use Rattle.standing.proofs.laws.a_look_takes_a_range.Goals as goal

pub returns-clause-range : goal.returns-clause-range
returns-clause-range c = takes_range

pub returns-clause-flushed : goal.returns-clause-flushed
returns-clause-flushed c = takes_all

pub returns-clause-not_flushed : goal.returns-clause-not_flushed
returns-clause-not_flushed c = takes_piece
