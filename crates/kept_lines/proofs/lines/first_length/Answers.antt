use Rattle.kept_lines.proofs.Cutting.{first_found, none_found}
use Rattle.kept_lines.proofs.lines.first_length.Goals as goal

pub returns-in-Some-clause-some : goal.returns-in-Some-clause-some
returns-in-Some-clause-some c = first_found c.args.text.now c.in-Some.at c.in-Some.ensures

pub returns-in-None-clause-none : goal.returns-in-None-clause-none
returns-in-None-clause-none c = none_found c.args.text.now c.in-None.ensures
