use Rattle.container_parser.proofs.OneLine.{one_line}
use Rattle.container_parser.proofs.laws.line_says_one_thing.Goals as goal

pub returns : goal.returns
returns c = one_line
