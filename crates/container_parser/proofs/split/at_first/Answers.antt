use Rattle.container_parser.proofs.Ends.{first_none, first_lacks}
use Rattle.container_parser.proofs.split.at_first.Goals as goal

pub returns-clause-none : goal.returns-clause-none
returns-clause-none c = first_none c.args.delimiter c.args.text.now c.split_once.result c.split_once.ensures.cases c.requires

pub returns-clause-first : goal.returns-clause-first
returns-clause-first c = first_lacks c.args.delimiter c.args.text.now c.split_once.result c.split_once.ensures.cases c.requires
