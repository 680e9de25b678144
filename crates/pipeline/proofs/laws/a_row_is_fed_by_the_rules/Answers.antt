use Rattle.pipeline.proofs.Rows.{row_fed}
use Rattle.pipeline.proofs.laws.a_row_is_fed_by_the_rules.Goals as goal

pub returns-clause-fed : goal.returns-clause-fed
returns-clause-fed c = row_fed (record { none = c.lines_append.ensures.none; more = c.lines_append.ensures.more }) c.args.pipeline.now
