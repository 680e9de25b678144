use Rattle.poll_core.proofs.SafeLemmas.{stays_kept, gains_kept}
use Rattle.poll_core.proofs.SoundLemmas.{stays_sound, steps_sound}
use Rattle.poll_core.proofs.laws.polling_keeps_what_is_kept.Goals as goal

pub returns-clause-stays : goal.returns-clause-stays
returns-clause-stays c = stays_sound c.settings_give_one_set_of_rules.ensures.rules

pub returns-clause-sound : goal.returns-clause-sound
returns-clause-sound c session next added old new is comes left sound steps =
    steps_sound c.settings_give_one_set_of_rules.ensures.rules session old new is left sound next added comes steps

pub returns-clause-kept : goal.returns-clause-kept
returns-clause-kept c = stays_kept

pub returns-clause-longer : goal.returns-clause-longer
returns-clause-longer c = gains_kept
