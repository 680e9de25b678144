use Rattle.poll_core.proofs.laws.a_session_polls_by_rules.Goals as goal

pub returns : goal.returns
returns c = c.a_pipeline_is_rules.ensures _ (c.settings_keep_limits.ensures _ _ c.requires.made.said)
