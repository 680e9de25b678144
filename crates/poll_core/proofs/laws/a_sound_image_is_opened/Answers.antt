use Rattle.poll_core.proofs.RefusalLemmas.{only_changed}
use Rattle.poll_core.proofs.laws.a_sound_image_is_opened.Goals as goal

pub returns : goal.returns
returns c = only_changed c.settings_give_one_set_of_rules.ensures.rules
