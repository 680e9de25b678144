use Rattle.std.proofs.Common.{arith}
use Rattle.container_parser.proofs.Ends.{last_none, last_lacks}
use Rattle.container_parser.proofs.split.at_last.Goals as goal

pub returns-clause-none : goal.returns-clause-none
returns-clause-none c = last_none 47 c.args.path.now c.rsplit_once.result c.rsplit_once.ensures.cases (omega arith)

pub returns-clause-last : goal.returns-clause-last
returns-clause-last c = last_lacks 47 c.args.path.now c.rsplit_once.result c.rsplit_once.ensures.cases (omega arith)
