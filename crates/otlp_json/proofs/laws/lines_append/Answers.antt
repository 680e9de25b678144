use Rattle.otlp_json.proofs.Numbered.{lines_none, lines_more, lines_appended}
use Rattle.otlp_json.proofs.laws.lines_append.Goals as goal

pub returns-clause-none : goal.returns-clause-none
returns-clause-none c = lines_none

pub returns-clause-more : goal.returns-clause-more
returns-clause-more c = lines_more

pub returns-clause-append : goal.returns-clause-append
returns-clause-append c = lines_appended
