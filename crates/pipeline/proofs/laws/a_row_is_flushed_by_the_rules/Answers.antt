use Rattle.pipeline.proofs.Rows.{row_flushed, fresh_told}
use Rattle.pipeline.proofs.laws.a_row_is_flushed_by_the_rules.Goals as goal

pub returns-clause-flushed : goal.returns-clause-flushed
returns-clause-flushed c =
    row_flushed (record { none = c.lines_append.ensures.none; more = c.lines_append.ensures.more }) (record { none = c.lines_append.ensures.none; append = c.lines_append.ensures.append }) c.args.pipeline.now

pub returns-clause-groups : goal.returns-clause-groups
returns-clause-groups c = λ settings_text row state is. fresh_told c.args.pipeline.now.graph row.state state.states.items is.states
