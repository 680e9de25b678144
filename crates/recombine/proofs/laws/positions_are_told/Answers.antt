use Rattle.recombine.proofs.PositionLemmas.{selects_alive, is_history, one_history}
use Rattle.recombine.proofs.laws.positions_are_told.Goals as goal

pub returns : goal.returns
returns c = record { alive = selects_alive; history = is_history; one = one_history }
