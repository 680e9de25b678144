use Rattle.multiline.proofs.EndingLemmas.{at_mark, past_max, only_there}
use Rattle.multiline.proofs.laws.tokens_end_where_lines_are_marked.Goals as goal

pub returns-clause-at_mark : goal.returns-clause-at_mark
returns-clause-at_mark c = at_mark c.args.max

pub returns-clause-too_long : goal.returns-clause-too_long
returns-clause-too_long c = past_max c.args.max

pub returns-clause-only_there : goal.returns-clause-only_there
returns-clause-only_there c = only_there c.args.max
