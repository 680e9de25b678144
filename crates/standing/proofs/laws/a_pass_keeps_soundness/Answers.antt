use Rattle.standing.proofs.PassLemmas.{pass_keeps_sound, kept_grows}
use Rattle.standing.proofs.laws.a_pass_keeps_soundness.Goals as goal

pub returns-clause-sound : goal.returns-clause-sound
returns-clause-sound c = λ eras first stamp stretch looks there after added file file_after laws asked pass longer sound.
    pass_keeps_sound eras laws first stamp asked stretch looks there after added file file_after pass longer sound

pub returns-clause-kept : goal.returns-clause-kept
returns-clause-kept c = kept_grows
