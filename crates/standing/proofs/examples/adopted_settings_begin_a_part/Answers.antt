use Rattle.standing.proofs.WorkedLemmas.{two_are_eras, is_adopted, grown_poll, grown_stands}
use Rattle.standing.proofs.examples.adopted_settings_begin_a_part.Goals as goal

pub returns-clause-eras : goal.returns-clause-eras
returns-clause-eras c = two_are_eras

pub returns-clause-adopted : goal.returns-clause-adopted
returns-clause-adopted c = is_adopted

pub returns-clause-polled : goal.returns-clause-polled
returns-clause-polled c = grown_poll

pub returns-clause-stands : goal.returns-clause-stands
returns-clause-stands c = grown_stands
