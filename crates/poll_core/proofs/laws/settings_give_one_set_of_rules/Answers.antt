use Rattle.pipeline.proofs.OfText.{one_rules, one_set}
use Rattle.poll_core.proofs.laws.settings_give_one_set_of_rules.Goals as goal

pub returns-clause-pipelines : goal.returns-clause-pipelines
returns-clause-pipelines c = one_rules c.text_spells_one_pattern.ensures

pub returns-clause-rules : goal.returns-clause-rules
returns-clause-rules c = one_set c.text_spells_one_pattern.ensures
