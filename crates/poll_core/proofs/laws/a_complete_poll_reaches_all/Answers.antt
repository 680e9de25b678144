use Rattle.poll_core.proofs.WholeLemmas.{all_reached}
use Rattle.poll_core.proofs.laws.a_complete_poll_reaches_all.Goals as goal

pub returns : goal.returns
returns c session next summary counts old new summed tells =
    all_reached session next summary counts old new summed tells c.settings_give_one_set_of_rules.ensures.rules
