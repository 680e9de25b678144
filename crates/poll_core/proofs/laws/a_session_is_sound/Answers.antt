use Rattle.poll_core.proofs.SessionLemmas.{session_sound, left_goes_on}
use Rattle.poll_core.proofs.laws.a_session_is_sound.Goals as goal

pub returns-clause-sound : goal.returns-clause-sound
returns-clause-sound c = session_sound

pub returns-clause-goes_on : goal.returns-clause-goes_on
returns-clause-goes_on c = left_goes_on
