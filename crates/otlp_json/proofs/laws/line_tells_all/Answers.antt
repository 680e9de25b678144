use Rattle.otlp_json.proofs.SplitsOfLines.{line_splits, line_tells}
use Rattle.otlp_json.proofs.laws.line_tells_all.Goals as goal

pub returns-clause-line : goal.returns-clause-line
returns-clause-line c = line_tells

pub returns-clause-row : goal.returns-clause-row
returns-clause-row c = line_splits
