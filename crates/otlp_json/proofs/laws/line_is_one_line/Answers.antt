use Rattle.std.proofs.Common.{refl}
use Rattle.otlp_json.specs.OutputLine.{output_line}
use Rattle.otlp_json.proofs.NoLf.{one_line, tail_one_line}
use Rattle.otlp_json.proofs.laws.line_is_one_line.Goals as goal

pub returns-clause-parts : goal.returns-clause-parts
unfolding output_line
returns-clause-parts c = λ id number observed entry. refl

pub returns-clause-one : goal.returns-clause-one
returns-clause-one c = one_line

pub returns-clause-tail : goal.returns-clause-tail
returns-clause-tail c = tail_one_line
