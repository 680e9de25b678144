use Rattle.line_splitter.proofs.BoundLemmas.{go_on}
use Rattle.line_splitter.proofs.laws.cuts_go_on.Goals as goal

pub returns : goal.returns
returns c = go_on
