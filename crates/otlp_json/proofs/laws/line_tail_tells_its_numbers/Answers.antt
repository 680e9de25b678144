use Rattle.otlp_json.proofs.SplitsOfTails.{tail_splits}
use Rattle.otlp_json.proofs.laws.line_tail_tells_its_numbers.Goals as goal

pub returns : goal.returns
returns c = tail_splits
