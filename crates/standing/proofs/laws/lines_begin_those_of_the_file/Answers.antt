use Rattle.standing.proofs.AllLines.{output_has_all}
use Rattle.standing.proofs.TellLemmas.{lines_begin, reached_has_all}
use Rattle.standing.proofs.laws.lines_begin_those_of_the_file.Goals as goal

pub returns-clause-begin : goal.returns-clause-begin
returns-clause-begin c = λ eras history row lines stands laws. lines_begin eras laws history row lines stands

pub returns-clause-all : goal.returns-clause-all
returns-clause-all c = λ eras history row lines place stands laws reached. reached_has_all eras laws history row lines place stands reached

pub returns-clause-reached : goal.returns-clause-reached
returns-clause-reached c = λ eras history rows next_id output stands here reached laws apart. output_has_all eras laws history rows next_id output stands here reached apart
