use Rattle.poll_core.proofs.SoundLemmas.{adopting_leaves_sound, adopting_sound, sound_adopted, sound_opened}
use Rattle.poll_core.proofs.laws.a_sound_image_fits_together.Goals as goal

pub returns-clause-opened : goal.returns-clause-opened
returns-clause-opened c = sound_opened

pub returns-clause-adopted : goal.returns-clause-adopted
returns-clause-adopted c = sound_adopted

pub returns-clause-adopting : goal.returns-clause-adopting
returns-clause-adopting c = adopting_sound c.settings_give_one_set_of_rules.ensures.rules

pub returns-clause-crash : goal.returns-clause-crash
returns-clause-crash c = adopting_leaves_sound c.settings_give_one_set_of_rules.ensures.rules
