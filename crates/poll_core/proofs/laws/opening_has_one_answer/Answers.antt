use Rattle.poll_core.proofs.RefusalLemmas.{one_refusal, not_refused}
use Rattle.poll_core.proofs.laws.opening_has_one_answer.Goals as goal

pub returns-clause-refusal : goal.returns-clause-refusal
returns-clause-refusal c = one_refusal c.settings_give_one_set_of_rules.ensures.rules

pub returns-clause-session : goal.returns-clause-session
returns-clause-session c = not_refused c.settings_give_one_set_of_rules.ensures.rules
