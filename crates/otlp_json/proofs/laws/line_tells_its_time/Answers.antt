use Rattle.otlp_json.proofs.Observed.{observed_told}
use Rattle.otlp_json.proofs.laws.line_tells_its_time.Goals as goal

pub returns : goal.returns
returns c = observed_told
